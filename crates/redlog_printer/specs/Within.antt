-- Cases and points whose names all stand in a list.
use Rattle.std.specs.Prelude.{ℕ, ◌<◌, List}
use Rattle.std.specs.List.{AllByRecursion}
use Rattle.logic_meaning.specs.Answer.{Answer, Place, Exact, AboveBy, BelowBy, PlusInfinity, MinusInfinity, Periodic}
use Rattle.logic_meaning.specs.Cases.{Case}
use Rattle.formula_laws.specs.Within.{AreTermsWithin, IsTreeWithin}
use Rattle.logic_meaning.specs.Values.{Value}

-- the number of each name of the place's form is below this one
abbrev pub IsPlaceWithin : ℕ → Place → Type 0
IsPlaceWithin n (Exact e d) = AreTermsWithin n e.terms
IsPlaceWithin n (AboveBy e d) = AreTermsWithin n e.terms
IsPlaceWithin n (BelowBy e d) = AreTermsWithin n e.terms
IsPlaceWithin n PlusInfinity = Unit {0}
IsPlaceWithin n MinusInfinity = Unit {0}
IsPlaceWithin n (Periodic j q) = Unit {0}

pub record IsAnswerWithin (n : ℕ) (a : Answer) : Type 0 where
  pub name : a.name < n
  pub place : IsPlaceWithin n a.place

abbrev pub AreAnswersWithin : ℕ → List Answer → Type 0
AreAnswersWithin n answers = AllByRecursion (IsAnswerWithin n) answers

pub record IsCaseWithin (n : ℕ) (k : Case) : Type 0 where
  pub guard : IsTreeWithin n k.guard
  pub answers : AreAnswersWithin n k.answers

abbrev pub AreCasesWithin : ℕ → List Case → Type 0
AreCasesWithin n cases = AllByRecursion (IsCaseWithin n) cases

abbrev pub AreValuesWithin : ℕ → List Value → Type 0
AreValuesWithin n values = AllByRecursion (λ (v : Value). v.name < n) values
