-- Which names of a term or a formula have a value.
use Rattle.std.specs.Prelude.{◌≡◌, ◌⊎◌, ℕ, List, [], ◌∷◌, Bool, true, false}
use Rattle.logic_meaning.specs.Every.{FreeInSome}
use Rattle.logic_meaning.specs.Formula.{Ex, All}
use Rattle.logic_meaning.specs.Some.{SomeOf}
use Rattle.language_meaning.specs.Trees.{FormulaTree, FormulaTrees}
use Rattle.language_meaning.specs.Value.{Mentions}

-- whether these names all pass the test; where they don't, one does not
abbrev pub AreAmong : (List ℕ → Type 0) → (List ℕ → Bool) → Bool → Type 0
AreAmong names has true = (x : List ℕ) → names x → has x ≡ true
AreAmong names has false = (x : List ℕ) × names x × (has x ≡ false)

-- the name is free in some of the formulas
abbrev pub AreFree : FormulaTrees → List ℕ → Type 0
AreFree fs x = FreeInSome Mentions fs x

-- the name is in the list
abbrev pub IsIn : List ℕ → List (List ℕ) → Type 0
IsIn x = SomeOf (λ (y : List ℕ). y ≡ x)

-- the names of the quantifiers with which the formula begins
abbrev pub prefix_of : FormulaTree → List (List ℕ)
prefix_of (Ex x f) = x ∷ prefix_of f
prefix_of (All x f) = x ∷ prefix_of f
prefix_of _ = []

-- what stands after them
abbrev pub matrix_of : FormulaTree → FormulaTree
matrix_of (Ex x f) = matrix_of f
matrix_of (All x f) = matrix_of f
matrix_of f = f

-- the formula begins with no quantifier
abbrev pub IsUnquantified : FormulaTree → Type 0
IsUnquantified (Ex x f) = ⊥
IsUnquantified (All x f) = ⊥
IsUnquantified _ = Unit {0}

-- A set of names after a list of names was put in: the names opened are those that it had not.
pub record IsOpened (bound : List (List ℕ)) (old new : List ℕ → Bool) (opened : List (List ℕ)) : Type 0 where
  pub there : (x : List ℕ) → IsIn x bound → new x ≡ true
  pub kept : (x : List ℕ) → old x ≡ true → new x ≡ true
  pub no_more : (x : List ℕ) → new x ≡ true → (old x ≡ true) ⊎ IsIn x opened
  pub only : (x : List ℕ) → IsIn x opened → (old x ≡ false) × IsIn x bound

-- a set of names after a list of names was taken out
pub record IsClosed (old new : List ℕ → Bool) (opened : List (List ℕ)) : Type 0 where
  pub out : (x : List ℕ) → new x ≡ true → (old x ≡ true) × (¬ (IsIn x opened))
  pub kept : (x : List ℕ) → old x ≡ true → (new x ≡ true) ⊎ IsIn x opened
