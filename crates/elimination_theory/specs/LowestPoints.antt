-- Test points of the fields in lowest terms.
use Rattle.std.specs.Prelude.{◌≡◌, ℕ}
use Rattle.logic_meaning.specs.Some.{SomeOf}
use Rattle.logic_meaning.specs.Answer.{Place, Exact, AboveBy, BelowBy, PlusInfinity, MinusInfinity, Periodic}
use Rattle.logic_meaning.specs.Tree.{Tree}
use Rattle.logic_meaning.specs.declared.side.Side.{Side}
use Rattle.logic_meaning.specs.FieldsPoints.{divisor_of, field_points}

-- no number above 1 divides all numbers of the place
abbrev pub IsInLowestTerms : Place → Type 0
IsInLowestTerms (Exact e d) = divisor_of e d ≡ 1
IsInLowestTerms (AboveBy e d) = divisor_of e d ≡ 1
IsInLowestTerms (BelowBy e d) = divisor_of e d ≡ 1
IsInLowestTerms PlusInfinity = Unit {0}
IsInLowestTerms MinusInfinity = Unit {0}
IsInLowestTerms (Periodic a q) = Unit {0}

-- Each test point of the fields is in lowest terms.
abbrev pub FieldPointsAreInLowestTerms : Type 0
FieldPointsAreInLowestTerms = (side : Side) (x : ℕ) (f : Tree) (s : Place) → SomeOf (λ t. t ≡ s) (field_points side x f) → IsInLowestTerms s
