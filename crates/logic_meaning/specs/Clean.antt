-- What a clean form is: lists of atoms without two atoms that merge, none of which contains all atoms of another.
use Rattle.std.specs.Prelude.{◌≡◌, ℕ, List, [], ◌∷◌}
use Rattle.logic_meaning.specs.Formula.{Formula}
use Rattle.logic_meaning.specs.Some.{EachOf, Among}
use Rattle.logic_meaning.specs.Context.{Context}
use Rattle.logic_meaning.specs.Tree.{Tree}
use Rattle.logic_meaning.specs.declared.junction.Junction.{Junction}
use Rattle.logic_meaning.specs.Merging.{IsKept}
use Rattle.logic_meaning.specs.Ways.{form_of_lines}

module _ {A : Type 0} where
  -- each atom of the first list is in the second
  abbrev pub IsWithin : List A → List A → Type 0
  IsWithin us vs = EachOf (Among vs) us

  -- neither of the two contains all atoms of the other
  abbrev pub AreApart : List A → List A → Type 0
  AreApart us vs = (¬ (IsWithin us vs)) × (¬ (IsWithin vs us))

  -- no list contains all atoms of another
  abbrev pub AreIncomparable : List (List A) → Type 0
  AreIncomparable [] = Unit {0}
  AreIncomparable (us ∷ ls) = EachOf (AreApart us) ls × AreIncomparable ls

-- Keeps a b: the two do not merge
module _ {A : Type 0} (Keeps : A → A → Type 0) where
  -- no two of the atoms merge
  abbrev pub IsUnmerged : List A → Type 0
  IsUnmerged [] = Unit {0}
  IsUnmerged (a ∷ us) = EachOf (Keeps a) us × IsUnmerged us

  -- the formula is that of some lists of atoms, which are clean
  pub record IsClean (j : Junction) (f : Formula A ℕ) : Type 0 where
    pub lines : List (List A)
    pub form : f ≡ form_of_lines j lines
    pub unmerged : EachOf IsUnmerged lines
    pub incomparable : AreIncomparable lines

-- the formula is a clean disjunctive form, where j is and, or a clean conjunctive form
abbrev pub IsCleanForm : Context → Junction → Tree → Type 0
IsCleanForm c j f = IsClean (IsKept c j) j f
