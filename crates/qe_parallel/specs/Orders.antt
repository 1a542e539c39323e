-- Answers that are filled in as the pieces end, in any order.
use Rattle.std.specs.Prelude.{◌≡◌, ℕ, ◌<◌, List, [], ◌∷◌, Option, Some, None, length, map, replicate, slice_set, All, Contains}
use Rattle.qe_parallel.specs.Fanned.{AreAnswers}

-- a piece may have one answer alone
abbrev pub HasOneAnswer : {Out : Type 0} → (ℕ → Out → Type 0) → ℕ → Type 0
HasOneAnswer {Out} R count = (i : ℕ) (a b : Out) → i < count → R i a → R i b → a ≡ b

-- each number below n stands in the order, and no other
pub record IsOrderOf (n : ℕ) (order : List ℕ) : Type 0 where
  pub below : All (λ i. i < n) order
  pub every : (i : ℕ) → i < n → Contains order i

-- the answer of each piece is put at its number, one piece after the other
abbrev pub filled : {Out : Type 0} → (ℕ → Out) → List ℕ → List (Option Out) → List (Option Out)
filled answer [] slots = slots
filled answer (i ∷ order) slots = filled answer order (slice_set slots i (Some (answer i)))

-- Filling along every order gives the list of answers.
abbrev pub EveryOrderGivesOneList : {Out : Type 0} → (ℕ → Out → Type 0) → Type 0
EveryOrderGivesOneList {Out} R =
    (outs : List Out) (answer : ℕ → Out) (order : List ℕ) → HasOneAnswer R (length outs) → AreAnswers R 0 outs → ((i : ℕ) → i < length outs → R i (answer i)) →
    IsOrderOf (length outs) order → filled answer order (replicate (length outs) None) ≡ map Some outs
