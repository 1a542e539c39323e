-- Searches for something that does not pass a test, and sets of numbers that grow and shrink with a scope.
use Rattle.std.specs.Prelude.{◌≡◌, ◌⊎◌, ℕ, List, Bool, true, false}
use Rattle.logic_meaning.specs.Some.{SomeOf}

-- whether all that have P pass the test; where they don't, one does not
abbrev pub AreAmong : {X : Type 0} → (X → Type 0) → (X → Bool) → Bool → Type 0
AreAmong {X} P has true = (x : X) → P x → has x ≡ true
AreAmong {X} P has false = (x : X) × P x × (has x ≡ false)

-- the number is in the list
abbrev pub IsIn : ℕ → List ℕ → Type 0
IsIn n = SomeOf (λ (m : ℕ). m ≡ n)

-- A set of numbers after a list of numbers was put in: the numbers opened are those that it had not.
pub record IsOpened (bound : List ℕ) (old new : ℕ → Bool) (opened : List ℕ) : Type 0 where
  pub there : (n : ℕ) → IsIn n bound → new n ≡ true
  pub kept : (n : ℕ) → old n ≡ true → new n ≡ true
  pub no_more : (n : ℕ) → new n ≡ true → (old n ≡ true) ⊎ IsIn n opened
  pub only : (n : ℕ) → IsIn n opened → (old n ≡ false) × IsIn n bound

-- a set of numbers after a list of numbers was taken out
pub record IsClosed (old new : ℕ → Bool) (opened : List ℕ) : Type 0 where
  pub out : (n : ℕ) → new n ≡ true → (old n ≡ true) × (¬ (IsIn n opened))
  pub kept : (n : ℕ) → old n ≡ true → (new n ≡ true) ⊎ IsIn n opened
