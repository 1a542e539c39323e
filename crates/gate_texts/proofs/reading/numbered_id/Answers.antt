use Rattle.std.proofs.Common.{[], sym, subst}
use Rattle.logic_meaning.specs.Context.{Context}
use Rattle.logic_meaning.specs.Every.{Every}
use Rattle.normal_atoms.specs.Atoms.{context_of}
use Rattle.logic_meaning.specs.NormalForm.{IsNormal}
use Rattle.formula_resolving.specs.BoundIds.{trees_bound}
use Rattle.formula_store.specs.Nodes.{tree}
use Rattle.resolved_formulas.specs.ResolvedLaws.{HasNormalTrees}
use Rattle.resolved_formulas.proofs.ResolvedTruth.{resolving_is_normal}
use Rattle.written_syntax.specs.CodeTrees.{named_tree}
use Rattle.gate_texts.proofs.reading.numbered_id.Goals as goal

nothing_bound : (c : Context) → HasNormalTrees c []
nothing_bound c x t e = absurd (cc)

pub returns-in-Ok-clause-normal : goal.returns-in-Ok-clause-normal
returns-in-Ok-clause-normal c =
    let theory = context_of c.args.context in
    let bound = trees_bound (tree c.args.store.now) c.new-bound.result in
    let none : HasNormalTrees theory bound = subst (λ bs. HasNormalTrees theory (trees_bound (tree c.args.store.now) bs)) (sym c.new-bound.ensures) (nothing_bound theory) in
    let resolved = resolving_is_normal theory bound c.args.names.now (named_tree 0 c.in_ok-formula.formula.now) none c.in-Ok.ensures.accepted in
    subst (Every (IsNormal theory)) (sym c.in-Ok.ensures.resolved.same) resolved
