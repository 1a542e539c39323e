-- Lists of atoms that come one after another, and what absorption leaves of them.
use Rattle.std.specs.Prelude.{ℕ, ◌≤◌, List, [], ◌∷◌, ◌++◌, length, take, if◌then◌else◌}
use Rattle.std.specs.List.{AllByRecursion}
use Rattle.logic_meaning.specs.Some.{Among}
use Rattle.formula_store.specs.declared.id.FormulaId.{FormulaId}
use Rattle.formula_store.specs.Order.{Rises}
use Rattle.normal_forms.specs.declared.paths.Paths.{Paths}
use Rattle.normal_forms.specs.Atoms.{some_within}
use Rattle.normal_forms.specs.Paths.{Leads}

-- one list more, unless an earlier one is within it
abbrev pub first_only : List (List FormulaId) → List FormulaId → List (List FormulaId)
first_only ls vs = if some_within ls vs then ls else ls ++ vs ∷ []

-- the lists in which no later one is within
abbrev pub swept : List (List FormulaId) → List (List FormulaId)
swept [] = []
swept (us ∷ ls) = if some_within ls us then swept ls else us ∷ swept ls

-- the same atoms, each once, by rising ids
pub record IsSortedOf (us sorted : List FormulaId) : Type 0 where
  pub rises : Rises sorted
  pub all : (u : FormulaId) → Among us u → Among sorted u
  pub only : (u : FormulaId) → Among sorted u → Among us u

-- the list is among the paths: its atoms, sorted, lead from the place to one where a list ends
pub record IsPath (p : Paths) (begin : ℕ) (us : List FormulaId) : Type 0 where
  pub atoms : List FormulaId
  pub sorted : IsSortedOf us atoms
  pub leads : Leads p begin atoms

abbrev pub ArePaths : Paths → List (List FormulaId) → Type 0
ArePaths p ls = AllByRecursion (IsPath p 0) ls

-- lists, of which so many first ones are among the paths
pub record Sifted : Type 0 where
  pub lines : List (List FormulaId)
  pub count : ℕ

pub record IsSifted (p : Paths) (s : Sifted) : Type 0 where
  pub within : s.count ≤ length s.lines
  pub paths : ArePaths p (take s.count s.lines)
