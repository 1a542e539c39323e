-- Rational points: a whole number for each name, over one denominator.
use Rattle.std.specs.Prelude.{ℕ, ◌*◌, ℤ, pos, ◌*ℤ◌, Bool, if◌then◌else◌}
use Rattle.logic_meaning.specs.Context.{Context, IsDenominator}

-- the value of a name is at name / below
pub record Point (N : Type 0) : Type 0 where
  pub at : N → ℤ
  pub below : ℕ

-- the point is one of the theory: its denominator is one that such points have
abbrev pub Of : {N : Type 0} → Context → Point N → Type 0
Of c p = IsDenominator c p.below

-- The same rational point over a denominator factor times as large, but for one name, which becomes number.
-- Every change of a point is this one: no division occurs.
unfoldable pub move : {N : Type 0} → (N → N → Bool) → Point N → N → ℤ → ℕ → Point N
move same p name number factor = record {
  at = λ other. if same name other then number else pos factor *ℤ p.at other;
  below = p.below * factor;
}
