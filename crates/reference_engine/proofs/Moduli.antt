-- The moduli of the formulas of a store.
use Rattle.std.proofs.Common.{◌≡◌, ℕ, zero, suc, ◌<◌, List, [], ◌∷◌, get_or, slice_get, Some, length, map, sym, subst, arith}
use Rattle.std.specs.List.{AllByRecursion}
use Rattle.std.proofs.lemmas.Int.{ints}
use Rattle.std.proofs.lemmas.Option.{slice_get-get_or}
use Rattle.logic_meaning.specs.Every.{Every, EveryOf}
use Rattle.logic_meaning.specs.Tree.{Tree}
use Rattle.normal_atoms.specs.declared.atoms.Atom.{Atom}
use Rattle.normal_atoms.specs.declared.atoms.Atom.TheVariants.{Compare, Congruent}
use Rattle.normal_atoms.specs.Atoms.{atom_of, IsWellFormed}
use Rattle.formula_tree.specs.declared.shape.Shape.{Shape}
use Rattle.formula_tree.specs.declared.shape.Shape.TheVariants as shape
use Rattle.formula_tree.specs.Trees.{members}
use Rattle.formula_tree.specs.Shapes.{tree_over, AllIds, IsProperShape}
use Rattle.formula_tree.proofs.Shapes.{all_ids_map}
use Rattle.formula_store.specs.declared.id.FormulaId.{FormulaId}
use Rattle.formula_store.specs.Nodes.{tree, IsId, AreNodes}
use Rattle.formula_store.proofs.Trees.{node_tree}
use Rattle.nnf_trees.specs.Nnfs.{HasModulus}

atom_modulus : (a : Atom) → IsWellFormed a → HasModulus (atom_of a)
atom_modulus (Compare r f) h = tt
atom_modulus (Congruent holds m f) h = (omega (arith, ints, h.0), h.1)

module _ {Id : Type 0} (t : Id → Tree) where
  members_moduli : (ids : List Id) → AllByRecursion (λ id. Every HasModulus (t id)) ids → EveryOf HasModulus (members (map t ids))
  members_moduli [] h = tt
  members_moduli (id ∷ ids) h = (h.0, members_moduli ids h.1)

  over_moduli : (s : Shape Id) → IsProperShape s → AllIds (λ id. Every HasModulus (t id)) s → Every HasModulus (tree_over t s)
  over_moduli shape.True p h = tt
  over_moduli shape.False p h = tt
  over_moduli (shape.One a) p h = atom_modulus a p
  over_moduli (shape.And ids) p h = members_moduli ids h
  over_moduli (shape.Or ids) p h = members_moduli ids h
  over_moduli (shape.Not f) p h = h
  over_moduli (shape.Impl f g) p h = h
  over_moduli (shape.Repl f g) p h = h
  over_moduli (shape.Equiv f g) p h = h
  over_moduli (shape.Ex x f) p h = h
  over_moduli (shape.All x f) p h = h

below : (nodes : List (Shape FormulaId)) → AreNodes nodes → (bound i : ℕ) → i < bound → i < length nodes → Every HasModulus (tree nodes (record { number = i }))
below nodes a zero i h l = absurd (omega arith)
below nodes a (suc bound) i h l =
    let n = get_or nodes i shape.True in
    let there : slice_get nodes i ≡ Some n = slice_get-get_or nodes i shape.True l in
    let ids : AllIds (λ id. Every HasModulus (tree nodes id)) n =
    all_ids_map (λ id. id.number < i) (λ id. Every HasModulus (tree nodes id)) (λ id k. below nodes a bound id.number (omega arith) (omega arith)) n (a.below i n there) in
    subst (Every HasModulus) (sym (node_tree nodes i n a there)) (over_moduli (tree nodes) n (a.proper i n there) ids)

-- each modulus of a formula of a store is positive and within the limit
pub store_moduli : (nodes : List (Shape FormulaId)) → (id : FormulaId) → IsId nodes id → Every HasModulus (tree nodes id)
store_moduli nodes id h = below nodes h.are (suc id.number) id.number (omega arith) h.below
