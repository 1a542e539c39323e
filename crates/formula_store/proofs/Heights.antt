-- The height of a node's tree is at most one more than its number.
use Rattle.std.proofs.Common.{◌≡◌, ℕ, zero, suc, ◌<◌, ◌≤◌, List, [], ◌∷◌, get_or, slice_get, Some, length, map, sym, subst, arith}
use Rattle.std.specs.List.{AllByRecursion}
use Rattle.std.proofs.lemmas.Option.{slice_get-get_or}
use Rattle.logic_meaning.specs.Tree.{Tree}
use Rattle.logic_meaning.specs.Sizes.{height, greatest_height}
use Rattle.formula_tree.specs.declared.shape.Shape.{Shape}
use Rattle.formula_tree.specs.declared.shape.Shape.TheVariants as shape
use Rattle.formula_tree.specs.Trees.{members}
use Rattle.formula_tree.specs.Shapes.{tree_over, AllIds}
use Rattle.formula_tree.proofs.Shapes.{all_ids_map}
use Rattle.formula_store.specs.declared.id.FormulaId.{FormulaId}
use Rattle.formula_store.specs.Nodes.{tree, AreNodes}
use Rattle.formula_store.proofs.Trees.{node_tree}

module _ {Id : Type 0} (t : Id → Tree) (most : ℕ) where
  pub members_height : (ids : List Id) → AllByRecursion (λ id. height (t id) ≤ most) ids → greatest_height (members (map t ids)) ≤ most
  members_height [] h = omega arith
  members_height (id ∷ ids) h = let k = members_height ids h.1 in omega arith

  pub over_height : (s : Shape Id) → AllIds (λ id. height (t id) ≤ most) s → height (tree_over t s) ≤ suc most
  over_height shape.True h = omega arith
  over_height shape.False h = omega arith
  over_height (shape.One a) h = omega arith
  over_height (shape.And ids) h = let k = members_height ids h in omega arith
  over_height (shape.Or ids) h = let k = members_height ids h in omega arith
  over_height (shape.Not f) h = omega arith
  over_height (shape.Impl f g) h = omega arith
  over_height (shape.Repl f g) h = omega arith
  over_height (shape.Equiv f g) h = omega arith
  over_height (shape.Ex x f) h = omega arith
  over_height (shape.All x f) h = omega arith

below : (nodes : List (Shape FormulaId)) → AreNodes nodes → (bound i : ℕ) → i < bound → i < length nodes → height (tree nodes (record { number = i })) ≤ suc i
below nodes a zero i h l = absurd (omega arith)
below nodes a (suc bound) i h l =
    let n = get_or nodes i shape.True in
    let there : slice_get nodes i ≡ Some n = slice_get-get_or nodes i shape.True l in
    let ids : AllIds (λ id. height (tree nodes id) ≤ i) n =
    all_ids_map (λ id. id.number < i) (λ id. height (tree nodes id) ≤ i) (λ id k. let b = below nodes a bound id.number (omega arith) (omega arith) in omega arith) n (a.below i n there) in
    subst (λ f. height f ≤ suc i) (sym (node_tree nodes i n a there)) (over_height (tree nodes) i n ids)

-- a height is at most the number of nodes
pub height_within : (nodes : List (Shape FormulaId)) → AreNodes nodes → (id : FormulaId) → id.number < length nodes → height (tree nodes id) ≤ length nodes
height_within nodes a id h = let k = below nodes a (suc id.number) id.number (omega arith) h in omega arith
