-- Formulas whose names all stand in a list.
use Rattle.std.specs.Prelude.{ℕ, ◌<◌, List}
use Rattle.std.specs.List.{AllByRecursion}
use Rattle.logic_meaning.specs.Form.{Term}
use Rattle.logic_meaning.specs.Atom.{Atom, form_of}
use Rattle.logic_meaning.specs.Every.{Every, EveryOf, EveryBound, EveryBoundOf}
use Rattle.logic_meaning.specs.Tree.{Tree, Trees}

-- the number of each term's name is below this one
abbrev pub AreTermsWithin : ℕ → List Term → Type 0
AreTermsWithin n ts = AllByRecursion (λ (t : Term). t.name < n) ts

abbrev pub IsAtomWithin : ℕ → Atom → Type 0
IsAtomWithin n a = AreTermsWithin n (form_of a).terms

-- the number of each name of the formula, in an atom or quantified, is below this one
pub record IsTreeWithin (n : ℕ) (f : Tree) : Type 0 where
  pub atoms : Every (IsAtomWithin n) f
  pub quantified : EveryBound (λ x. x < n) f

-- so it is of each formula of the list
pub record AreTreesWithin (n : ℕ) (fs : Trees) : Type 0 where
  pub atoms : EveryOf (IsAtomWithin n) fs
  pub quantified : EveryBoundOf (λ x. x < n) fs
