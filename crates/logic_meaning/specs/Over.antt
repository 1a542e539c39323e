-- What is known of each answer of a case.
use Rattle.std.specs.Prelude.{◌≡◌, ◌⊎◌, ℕ, List, [], ◌∷◌}
use Rattle.logic_meaning.specs.Context.{Context}
use Rattle.logic_meaning.specs.Answer.{Answer, PlaceMentions, IsSortedPlace}
use Rattle.logic_meaning.specs.BothTheories.{IsPlaceIn}
use Rattle.logic_meaning.specs.Overflow.{PlaceWithin}

-- the place is one of the theory, its form is sorted, its numbers are within the limit of exact_numbers, and its form has only names with P
pub record IsAnswerOver (c : Context) (P : ℕ → Type 0) (a : Answer) : Type 0 where
  pub place : IsPlaceIn c a.place
  pub sorted : IsSortedPlace a.place
  pub within : PlaceWithin a.place
  pub names : (y : ℕ) → PlaceMentions a.place y → P y

-- each is such an answer over the names with P and the names of the answers before it
abbrev pub AreAnswersOver : Context → (ℕ → Type 0) → List Answer → Type 0
AreAnswersOver c P [] = Unit {0}
AreAnswersOver c P (a ∷ rest) = IsAnswerOver c P a × AreAnswersOver c (λ y. P y ⊎ (a.name ≡ y)) rest
