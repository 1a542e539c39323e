use Rattle.std.proofs.Common.{◌≡◌, List, [], drop, map, subst, arith}
use Rattle.std.proofs.Math.ListN.{drop_of_length-le}
use Rattle.formula_tree.specs.Trees.{members}
use Rattle.formula_store.specs.declared.id.FormulaId.{FormulaId}
use Rattle.formula_store.specs.Nodes.{tree}
use Rattle.formula_store.specs.Together.{Join}
use Rattle.formula_store.proofs.Joined.{join_none}
use Rattle.formula_store.proofs.known.facts_together.Goals as goal

pub returns-clause-facts : goal.returns-clause-facts
returns-clause-facts g c =
    let over : drop c.loop-id.id-index c.args.ids.now ≡ [] = drop_of_length-le c.args.ids.now (omega arith) in
    let all = members (map (tree (g.K.Known.nodes c.args.formulas.now)) c.args.ids.now) in
    join_none c.loop-id.facts all c.loop-id.invariant.2 (subst (λ (ids : List FormulaId). Join c.loop-id.facts (members (map (tree (g.K.Known.nodes c.args.formulas.now)) ids)) all) over c.loop-id.invariant.0)
