use Rattle.std.proofs.Common.{◌≡◌, List, [], ◌∷◌, map, ap, sym, ◌∙◌}
use Rattle.logic_meaning.specs.Formula.{And}
use Rattle.formula_tree.specs.declared.shape.Shape.{Shape}
use Rattle.formula_tree.specs.Shapes.{tree_over}
use Rattle.formula_tree.specs.Trees.{members}
use Rattle.formula_store.specs.declared.id.FormulaId.{FormulaId}
use Rattle.formula_store.specs.Nodes.{tree}
use Rattle.narrowed_blocks.specs.Conjunctions.{AreMembersOf, IsConjunctionOf}
use Rattle.narrowed_blocks.proofs.Members.{of_conjunction, of_one, ok_gives}
use Rattle.narrowed_blocks.proofs.conjunction.Conjunction.of.Goals as goal

pub returns-in-And : goal.returns-in-And
returns-in-And c =
    let n = c.args.store.now in
    let f = tree n c.args.id in
    let ids : List FormulaId = c.items.result.now in
    let e : f ≡ And (members (map (tree n) ids)) =
    c.shape.ensures.tree ∙ ap (λ (s : Shape FormulaId). tree_over (tree n) s) c.in-And.is ∙ ap (λ (l : List FormulaId). And (members (map (tree n) l))) (sym c.items.ensures) in
    ok_gives (AreMembersOf (map (tree n) ids) n) (IsConjunctionOf f n) (λ k h. of_conjunction n f (map (tree n) ids) k e h) c.of_all.result c.of_all.ensures

pub returns-in_default : goal.returns-in_default
returns-in_default c =
    let n = c.args.store.now in
    let f = tree n c.args.id in
    ok_gives (AreMembersOf (f ∷ []) n) (IsConjunctionOf f n) (λ k h. of_one n f k h) c.of_all-in_default.result c.of_all-in_default.ensures
