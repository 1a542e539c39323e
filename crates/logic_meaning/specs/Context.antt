-- The two theories. Fields: truth over the rational numbers. Integers: truth over the whole numbers.
use Rattle.std.specs.Prelude.{◌≡◌, ℕ, ◌<◌}

-- one of the two theories: that of the rational numbers, or that of the whole numbers
pub data Context : Type 0 where
  Fields : Context
  Integers : Context

-- by which positive factor the denominator of a point may grow where a name is set to a new value
abbrev pub Allowed : Context → ℕ → Type 0
Allowed Fields factor = 0 < factor
Allowed Integers factor = factor ≡ 1

-- which denominators the points of a theory have
abbrev pub IsDenominator : Context → ℕ → Type 0
IsDenominator Fields below = 0 < below
IsDenominator Integers below = below ≡ 1
