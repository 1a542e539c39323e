-- Formulas that are conjunctions of atoms, and which of them implies which.
use Rattle.std.specs.Prelude.{◌≡◌, ◌↔◌, ℕ, ◌<◌, Bool, true, false, List, [], ◌∷◌, Option, Some, None, map, length, get_or}
use Rattle.std.specs.Option.{IfSome}
use Rattle.logic_meaning.specs.Context.{Context}
use Rattle.logic_meaning.specs.Point.{Point}
use Rattle.logic_meaning.specs.Atom.{Atom}
use Rattle.logic_meaning.specs.Tree.{Tree, TrueAt}
use Rattle.formula_tree.specs.declared.shape.Shape.{Shape}
use Rattle.formula_store.specs.declared.id.FormulaId.{FormulaId}
use Rattle.formula_store.specs.Nodes.{tree}
use Rattle.atom_pruning.specs.declared.rows.AtomRows.{AtomRows}
use Rattle.atom_pruning.specs.Rows.{AreRows}
use Rattle.atom_pruning.specs.Kept.{AllSay, Imply}
use Rattle.branch_pruning.specs.declared.conjunction.Conjunction.{Conjunction}
use Rattle.branch_pruning.specs.Cuts.{said}

-- what the formulas of the ids say as atoms
abbrev pub atoms_of : (FormulaId → Tree) → List FormulaId → List Atom
atoms_of tree ids = map said (map tree ids)

-- f is true exactly where the atoms are
abbrev pub SaysAll : Tree → List Atom → Type 0
SaysAll f us = (c : Context) (p : Point ℕ) → TrueAt c f p ↔ AllSay us p

-- f is the conjunction of the atoms, and the rows are theirs
pub record IsConjunctionOf (c : Context) (nodes : List (Shape FormulaId)) (f : Tree) (k : Conjunction) : Type 0 where
  pub says : SaysAll f (atoms_of (tree nodes) k.ids.items)
  pub rows : AreRows c (atoms_of (tree nodes) k.ids.items) k.rows.items

-- those that are there are conjunctions of the formulas of the ids, one after another
abbrev pub AreConjunctionsOf : Context → List (Shape FormulaId) → List FormulaId → List (Option Conjunction) → Type 0
AreConjunctionsOf c nodes [] [] = Unit {0}
AreConjunctionsOf c nodes (id ∷ ids) (k ∷ ks) = IfSome k (IsConjunctionOf c nodes (tree nodes id)) × AreConjunctionsOf c nodes ids ks
AreConjunctionsOf c nodes [] (k ∷ ks) = ⊥
AreConjunctionsOf c nodes (id ∷ ids) [] = ⊥

-- under atoms with the rows the atoms of the first conjunction imply those of the second, whatever formulas the ids stand for
abbrev pub Implies : List AtomRows → Conjunction → Conjunction → Type 0
Implies rows k l =
    (c : Context) (ks : List Atom) (tree : FormulaId → Tree) → AreRows c ks rows → AreRows c (atoms_of tree k.ids.items) k.rows.items → AreRows c (atoms_of tree l.ids.items) l.rows.items →
    Imply c ks (atoms_of tree k.ids.items) (atoms_of tree l.ids.items)

-- another conjunction, which has a mark, is implied by this one
pub record IsCovered (rows : List AtomRows) (k : Conjunction) (place : ℕ) (all : List (Option Conjunction)) (marks : List Bool) : Type 0 where
  pub other : ℕ
  pub conjunction : Conjunction
  pub there : other < length all
  pub is : get_or all other None ≡ Some conjunction
  pub differs : ¬ (other ≡ place)
  pub marked : get_or marks other false ≡ true
  pub implied : Implies rows k conjunction
