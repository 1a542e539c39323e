-- What holds of a formula holds of what stands in it.
use Rattle.std.proofs.Common.{◌≡◌, inl, inr, List, [], ◌∷◌, map, sym, subst}
use Rattle.std.specs.Prelude.{ℤ}
use Rattle.std.specs.List.{AllByRecursion}
use Rattle.logic_meaning.specs.Some.{SomeOf, Among}
use Rattle.logic_meaning.specs.Shape.{IsQuantifierFree, AreQuantifierFree}
use Rattle.logic_meaning.specs.Sizes.{subtrees}
use Rattle.logic_meaning.specs.Tree.{Tree}
use Rattle.formula_tree.specs.FromLinearForms.{Numbers}
use Rattle.formula_tree.specs.declared.shape.Shape.{Shape}
use Rattle.formula_tree.specs.declared.shape.Shape.TheVariants as shape
use Rattle.formula_tree.specs.Trees.{members}
use Rattle.formula_tree.specs.Shapes.{tree_over, ids_of}
use Rattle.formula_store.specs.declared.id.FormulaId.{FormulaId}
use Rattle.formula_store.specs.Nodes.{tree, AreNodes}
use Rattle.formula_store.specs.Order.{Within, itself, inside}
use Rattle.formula_store.specs.Truths.{SomeAtomPasses, IsWholeWhereAsked}
use Rattle.formula_store.proofs.Before.{among_all}
use Rattle.formula_store.proofs.Counted.{subtrees_over}
use Rattle.formula_store.proofs.Trees.{node_tree}

module _ {Id : Type 0} (t : Id → Tree) where
  free_list : (ids : List Id) → AreQuantifierFree (members (map t ids)) → AllByRecursion (λ id. IsQuantifierFree (t id)) ids
  free_list [] h = tt
  free_list (id ∷ ids) h = (h.0, free_list ids h.1)

  -- the members of a formula without quantifiers have none
  pub free_members : (s : Shape Id) → IsQuantifierFree (tree_over t s) → AllByRecursion (λ id. IsQuantifierFree (t id)) (ids_of s)
  free_members shape.True h = tt
  free_members shape.False h = tt
  free_members (shape.One a) h = tt
  free_members (shape.And ids) h = free_list ids h
  free_members (shape.Or ids) h = free_list ids h
  free_members (shape.Not f) h = (h, tt)
  free_members (shape.Impl f g) h = (h.0, (h.1, tt))
  free_members (shape.Repl f g) h = (h.0, (h.1, tt))
  free_members (shape.Equiv f g) h = (h.0, (h.1, tt))
  free_members (shape.Ex x f) h = absurd h
  free_members (shape.All x f) h = absurd h

module _ (nodes : List (Shape FormulaId)) (are : AreNodes nodes) where
  -- what passes from a formula to its members passes to all that stands in it
  pub passes_down : (P : Tree → Type 0) → ((s : Shape FormulaId) → P (tree_over (tree nodes) s) → AllByRecursion (λ id. P (tree nodes id)) (ids_of s)) → (a b : FormulaId) → Within nodes a b → P (tree nodes a) → P (tree nodes b)
  passes_down P down a b itself h = h
  passes_down P down a b (inside {m = m} n e s w) h =
      passes_down P down m b w (among_all (λ id. P (tree nodes id)) (ids_of n) m (down n (subst P (node_tree nodes a.number n are e) h)) s)

  pub free_within : (a b : FormulaId) → Within nodes a b → IsQuantifierFree (tree nodes a) → IsQuantifierFree (tree nodes b)
  free_within = passes_down IsQuantifierFree (free_members (tree nodes))

  member_subtree : (f : Tree) (ids : List FormulaId) (m : FormulaId) → SomeOf (λ i. i ≡ m) ids → Among (subtrees (tree nodes m)) f → SomeOf (λ id. Among (subtrees (tree nodes id)) f) ids
  member_subtree f [] m h k = absurd h
  member_subtree f (i ∷ ids) m (inl p) k = inl (subst (λ j. Among (subtrees (tree nodes j)) f) (sym p) k)
  member_subtree f (i ∷ ids) m (inr p) k = inr (member_subtree f ids m p k)

  -- a subtree of what stands in a formula is one of the formula
  pub subtree_within : (a b : FormulaId) (f : Tree) → Within nodes a b → Among (subtrees (tree nodes b)) f → Among (subtrees (tree nodes a)) f
  subtree_within a b f itself h = h
  subtree_within a b f (inside {m = m} n e s w) h =
      subst (λ g. Among (subtrees g) f) (sym (node_tree nodes a.number n are e)) (subtrees_over (tree nodes) n f (member_subtree f (ids_of n) m s (subtree_within m b f w h)))

  pub whole_within : (a b : FormulaId) (d : ℤ) → Within nodes a b → IsWholeWhereAsked (tree nodes a) d → IsWholeWhereAsked (tree nodes b) d
  whole_within a b d w h = λ holds n e m. h holds n e (subtree_within a b _ w m)

  pub passes_within : (a b : FormulaId) (at : Numbers) → Within nodes a b → SomeAtomPasses (tree nodes b) at → SomeAtomPasses (tree nodes a) at
  passes_within a b at w h = (h.0, subtree_within a b _ w h.1, h.2)
