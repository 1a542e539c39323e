-- The numbers of a stored formula are within the limit.
use Rattle.std.proofs.Common.{◌≡◌, ℕ, zero, suc, ◌<◌, List, [], ◌∷◌, get_or, slice_get, Some, length, map, sym, subst, arith}
use Rattle.std.specs.List.{AllByRecursion}
use Rattle.std.proofs.lemmas.Option.{slice_get-get_or}
use Rattle.logic_meaning.specs.Every.{Every, EveryOf}
use Rattle.logic_meaning.specs.Numbers.{IsAtomInLimit}
use Rattle.logic_meaning.specs.Tree.{Tree}
use Rattle.formula_tree.proofs.FromNormalAtoms.{numbers_within}
use Rattle.formula_tree.specs.declared.shape.Shape.{Shape}
use Rattle.formula_tree.specs.declared.shape.Shape.TheVariants as shape
use Rattle.formula_tree.specs.Trees.{members}
use Rattle.formula_tree.specs.Shapes.{tree_over, AllIds, IsProperShape}
use Rattle.formula_tree.proofs.Shapes.{all_ids_map}
use Rattle.formula_store.specs.declared.id.FormulaId.{FormulaId}
use Rattle.formula_store.specs.Nodes.{tree, IsId, AreNodes}
use Rattle.formula_store.proofs.Trees.{node_tree}

module _ {Id : Type 0} (t : Id → Tree) where
  members_within : (ids : List Id) → AllByRecursion (λ id. Every IsAtomInLimit (t id)) ids → EveryOf IsAtomInLimit (members (map t ids))
  members_within [] h = tt
  members_within (x ∷ ids) h = (h.0, members_within ids h.1)

  -- what its members and its atom have, the formula has
  over_within : (n : Shape Id) → IsProperShape n → AllIds (λ id. Every IsAtomInLimit (t id)) n → Every IsAtomInLimit (tree_over t n)
  over_within shape.True p h = tt
  over_within shape.False p h = tt
  over_within (shape.One a) p h = numbers_within a p
  over_within (shape.And ids) p h = members_within ids h
  over_within (shape.Or ids) p h = members_within ids h
  over_within (shape.Not f) p h = h
  over_within (shape.Impl f g) p h = h
  over_within (shape.Repl f g) p h = h
  over_within (shape.Equiv f g) p h = h
  over_within (shape.Ex x f) p h = h
  over_within (shape.All x f) p h = h

below : (nodes : List (Shape FormulaId)) → AreNodes nodes → (bound i : ℕ) → i < bound → i < length nodes → Every IsAtomInLimit (tree nodes (record { number = i }))
below nodes a zero i h l = absurd (omega arith)
below nodes a (suc bound) i h l =
    let n = get_or nodes i shape.True in
    let there : slice_get nodes i ≡ Some n = slice_get-get_or nodes i shape.True l in
    let ids : AllIds (λ id. Every IsAtomInLimit (tree nodes id)) n =
    all_ids_map (λ id. id.number < i) (λ id. Every IsAtomInLimit (tree nodes id)) (λ id k. below nodes a bound id.number (omega arith) (omega arith)) n (a.below i n there) in
    subst (Every IsAtomInLimit) (sym (node_tree nodes i n a there)) (over_within (tree nodes) n (a.proper i n there) ids)

pub numbers_are_within : (nodes : List (Shape FormulaId)) → (id : FormulaId) → IsId nodes id → Every IsAtomInLimit (tree nodes id)
numbers_are_within nodes id h = below nodes h.are (suc id.number) id.number (omega arith) h.below
