use Rattle.std.proofs.Common.{◌≡◌, List, map, ap, sym, subst, ◌∙◌}
use Rattle.formula_tree.specs.Shapes.{tree_over}
use Rattle.formula_tree.specs.Trees.{members}
use Rattle.formula_store.specs.declared.id.FormulaId.{FormulaId}
use Rattle.formula_store.specs.Nodes.{tree}
use Rattle.branch_rounds.specs.FromBranchPoints.{conjuncts}
use Rattle.engine_answers.specs.Equations.{HasEquation}
use Rattle.engine_answers.proofs.Equated.{some_equation, equation_among}
use Rattle.engine_answers.proofs.answer.has_equation.Goals as goal

pub returns-in-And : goal.returns-in-And
returns-in-And c =
    let t = tree c.args.store.now in
    let ids : List FormulaId = c.items.result.now in
    let e : conjuncts (t c.args.id) ≡ members (map t ids) = ap conjuncts (c.shape.ensures.tree ∙ ap (tree_over t) c.in-And.is) ∙ ap (λ (l : List FormulaId). members (map t l)) (sym c.items.ensures) in
    let both = c.some_equation.ensures in
    (λ u. subst HasEquation (sym e) (some_equation t ids (both.0 u)), λ h. both.1 (equation_among t ids (subst HasEquation e h)))
