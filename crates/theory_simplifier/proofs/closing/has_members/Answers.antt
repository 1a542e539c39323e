use Rattle.std.proofs.Common.{◌≡◌, List, sym, ap, ◌∙◌}
use Rattle.logic_meaning.specs.declared.junction.Junction.{Junction}
use Rattle.formula_tree.specs.Shapes.{tree_over}
use Rattle.formula_tree.specs.declared.shape.Shape.TheVariants as shape
use Rattle.formula_store.specs.declared.id.FormulaId.{FormulaId}
use Rattle.formula_store.specs.Nodes.{tree}
use Rattle.theory_simplifier.specs.Parts.{joined_shape}
use Rattle.theory_simplifier.proofs.Keeping.{ids_same}
use Rattle.theory_simplifier.proofs.closing.has_members.Goals as goal

pub returns-in-And-Conjunction : goal.returns-in-And-Conjunction
returns-in-And-Conjunction c h =
    let t = tree c.args.store.now in
    let same : c.items.result.now ≡ c.args.ids.now = ids_same c.items.result.now c.args.ids.now (sym c.eq.ensures ∙ h) in
    c.shape.ensures.tree ∙ ap (tree_over t) c.in-And-Conjunction.is-0 ∙ ap (λ (ids : List FormulaId). tree_over t (shape.And ids)) (sym c.items.ensures ∙ same)
    ∙ ap (λ (j : Junction). tree_over t (joined_shape j c.args.ids.now)) (sym c.in-And-Conjunction.is-1)

pub returns-in-Or-Disjunction : goal.returns-in-Or-Disjunction
returns-in-Or-Disjunction c h =
    let t = tree c.args.store.now in
    let same : c.items-in-Or-Disjunction.result.now ≡ c.args.ids.now = ids_same c.items-in-Or-Disjunction.result.now c.args.ids.now (sym c.eq-in-Or-Disjunction.ensures ∙ h) in
    c.shape.ensures.tree ∙ ap (tree_over t) c.in-Or-Disjunction.is-0 ∙ ap (λ (ids : List FormulaId). tree_over t (shape.Or ids)) (sym c.items-in-Or-Disjunction.ensures ∙ same)
    ∙ ap (λ (j : Junction). tree_over t (joined_shape j c.args.ids.now)) (sym c.in-Or-Disjunction.is-1)
