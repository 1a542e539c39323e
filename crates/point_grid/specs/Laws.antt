-- What is proved of grids and of the lists of truths.
use Rattle.std.specs.Prelude.{◌≡◌, ◌↔◌, ℕ, ◌<◌, ℤ, pos, ◌+ℤ◌, ◌*ℤ◌, ◌≤ℤ◌}
use Rattle.exact_numbers.specs.Frac.{Frac, SameValue}
use Rattle.exact_numbers.specs.Fraction.{frac_of}
use Rattle.program_meaning.specs.declared.axis.Axis.{Axis}
use Rattle.program_meaning.specs.Scales.{number_of}
use Rattle.program_meaning.specs.GridPoints.{over, scale_of}

-- a number over a denominator
abbrev pub fraction_over : ℤ → ℤ → Frac
fraction_over m n = record { numerator = n; denominator = m }

-- Over the denominator m, the scale of an axis has the numbers low + i * step, for each i from 0 on at which that is at most high.
pub record HasValues (m : ℤ) (a : Axis) : Type 0 where
  pub low : SameValue (fraction_over m (over m a.low)) (frac_of a.low)
  pub high : SameValue (fraction_over m (over m a.high)) (frac_of a.high)
  pub step : SameValue (fraction_over m (over m a.step)) (frac_of a.step)
  pub number : (i : ℕ) → number_of (scale_of m a) i ≡ over m a.low +ℤ pos i *ℤ over m a.step
  pub counted : (i : ℕ) → (i < (scale_of m a).count) ↔ ((over m a.low +ℤ pos i *ℤ over m a.step) ≤ℤ over m a.high)
