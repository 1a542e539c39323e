use Rattle.std.proofs.Common.{rules, ◌<◌, List, map, length, ap, ◌∙◌}
use Rattle.logic_meaning.specs.Formula.{Or}
use Rattle.formula_tree.specs.Trees.{members}
use Rattle.formula_store.specs.declared.id.FormulaId.{FormulaId}
use Rattle.formula_store.specs.Nodes.{tree}
use Rattle.engine_answers.proofs.Together.{or_of_two}
use Rattle.engine_answers.proofs.guards.disjunction.Goals as goal

pub returns-in-Ok-clause-made : goal.returns-in-Ok-clause-made
returns-in-Ok-clause-made c =
    let t = tree c.args.store.now in
    let more : 1 < length c.args.ids.items = search rules in
    record {
      is = c.in-Ok.ensures.made.is;
      same = c.in-Ok.ensures.made.same ∙ ap (λ (l : List FormulaId). Or (members (map t l))) c.of.ensures ∙ or_of_two t c.args.ids.items more;
    }
