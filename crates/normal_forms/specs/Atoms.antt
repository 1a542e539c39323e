-- Lists of atoms of a store, by the ids of the atoms.
use Rattle.std.specs.Prelude.{◌≡◌, pos, nat_eq, Bool, false, Option, Some, None, List, [], map}
use Rattle.std.specs.List.{AllByRecursion}
use Rattle.logic_meaning.specs.Context.{Context}
use Rattle.logic_meaning.specs.Formula.{One}
use Rattle.logic_meaning.specs.Atom.{Atom, Compare, Equals}
use Rattle.logic_meaning.specs.declared.junction.Junction.TheVariants.{Conjunction}
use Rattle.logic_meaning.specs.Tree.{Tree}
use Rattle.normal_atoms.specs.Computed.{Kept, IsNormalWithin}
use Rattle.formula_tree.specs.declared.shape.Shape.{Shape}
use Rattle.formula_store.specs.declared.id.FormulaId.{FormulaId}
use Rattle.formula_store.specs.Nodes.{tree, IsId}
use Rattle.shape_theory.specs.Kit.{Kit}
use Rattle.shape_theory.specs.Lines as clean

-- the atom, where the formula is one
abbrev pub atom_in : Tree → Atom
atom_in (One a) = a
atom_in f = Compare Equals (record { terms = []; constant = pos 0 })

-- the atom of an id
abbrev pub atom_at : List (Shape FormulaId) → FormulaId → Atom
atom_at nodes id = atom_in (tree nodes id)

-- the id is that of a normal atom within the limit
pub record IsAtomId (c : Context) (nodes : List (Shape FormulaId)) (id : FormulaId) : Type 0 where
  pub is : IsId nodes id
  pub one : tree nodes id ≡ One (atom_at nodes id)
  pub normal : IsNormalWithin c (atom_at nodes id)

-- each id is that of an atom, and the atoms
abbrev pub AreAtomIds : Context → List (Shape FormulaId) → List FormulaId → Type 0
AreAtomIds c nodes us = AllByRecursion (IsAtomId c nodes) us

abbrev pub atoms : List (Shape FormulaId) → List FormulaId → List Atom
atoms nodes us = map (atom_at nodes) us

-- the same of lists of ids
abbrev pub AreLineIds : Context → List (Shape FormulaId) → List (List FormulaId) → Type 0
AreLineIds c nodes ls = AllByRecursion (AreAtomIds c nodes) ls

abbrev pub lines : List (Shape FormulaId) → List (List FormulaId) → List (List Atom)
lines nodes ls = map (atoms nodes) ls

-- the ids are those of the atoms
pub record IsLine (c : Context) (nodes : List (Shape FormulaId)) (us : List Atom) (ids : List FormulaId) : Type 0 where
  pub are : AreAtomIds c nodes ids
  pub same : atoms nodes ids ≡ us

abbrev pub IsLineIf : Context → List (Shape FormulaId) → Option (List Atom) → Option (List FormulaId) → Type 0
IsLineIf c nodes None None = Unit {0}
IsLineIf c nodes (Some us) (Some ids) = IsLine c nodes us ids
IsLineIf c nodes _ _ = ⊥

-- the lists of ids are those of the lists of atoms
pub record AreLines (c : Context) (nodes : List (Shape FormulaId)) (ls : List (List Atom)) (ids : List (List FormulaId)) : Type 0 where
  pub are : AreLineIds c nodes ids
  pub same : lines nodes ids ≡ ls

-- ---- ids alone

abbrev pub same_id : FormulaId → FormulaId → Bool
same_id a b = nat_eq a.number b.number

-- atoms as ids, of which nothing is known but whether they are equal
abbrev pub id_kit : Kit FormulaId
id_kit = record { merge = λ j a b. Kept; decides = λ a b. None; opposite = λ a. a; contains = λ a x. false; same = same_id }

-- whether each id of the first list is in the second
abbrev pub is_within : List FormulaId → List FormulaId → Bool
is_within us vs = clean.is_within id_kit Conjunction us vs

-- one list more
abbrev pub add : List (List FormulaId) → List FormulaId → List (List FormulaId)
add ls vs = clean.add id_kit Conjunction ls vs

abbrev pub some_within : List (List FormulaId) → List FormulaId → Bool
some_within ls vs = clean.some_within id_kit Conjunction ls vs

-- the lists that this one is not within
abbrev pub not_above : List (List FormulaId) → List FormulaId → List (List FormulaId)
not_above ls vs = clean.not_above id_kit Conjunction ls vs

-- all lists of the second more
abbrev pub add_all : List (List FormulaId) → List (List FormulaId) → List (List FormulaId)
add_all ls ks = clean.add_all id_kit Conjunction ls ks
