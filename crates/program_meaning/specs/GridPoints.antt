-- The grid of axes.
use Rattle.std.specs.Prelude.{◌⊎◌, ◌<◌, ℤ, pos, ◌-ℤ◌, List, [], ◌∷◌, map, unsigned_abs}
use Rattle.std.specs.List.{AllByRecursion}
use Rattle.exact_numbers.specs.declared.fraction.Fraction.{Fraction}
use Rattle.exact_numbers.specs.Limit.{InLimit, PastLimit}
use Rattle.exact_numbers.specs.Divides.{lcm_of}
use Rattle.exact_numbers.specs.Frac.{Frac, lowest, scaled}
use Rattle.logic_meaning.specs.Some.{SomeOf}
use Rattle.program_meaning.specs.declared.axis.Axis.{Axis}
use Rattle.program_meaning.specs.declared.scale.Scale.{Scale}
use Rattle.program_meaning.specs.Counts.{count_of}
use Rattle.program_meaning.specs.Scales.{size}
use Rattle.program_meaning.specs.Frames.{Frame, most_points}

-- a fraction in lowest terms
abbrev pub lowest_of : Fraction → Frac
lowest_of f = lowest f.numerator f.denominator

-- the least common multiple of a number and the denominators of the axis in lowest terms
unfoldable pub multiple_with : ℤ → Axis → ℤ
multiple_with m a = lcm_of (lcm_of (lcm_of m (lowest_of a.low).denominator) (lowest_of a.high).denominator) (lowest_of a.step).denominator

-- the least common multiple of a number and the denominators of all axes in lowest terms
unfoldable pub multiple_of : ℤ → List Axis → ℤ
multiple_of m [] = m
multiple_of m (a ∷ axes) = multiple_of (multiple_with m a) axes

-- the least common multiple of the denominators of all axes in lowest terms
abbrev pub common : List Axis → ℤ
common axes = multiple_of (pos 1) axes

-- the numerator of a fraction over a multiple of its denominator
abbrev pub over : ℤ → Fraction → ℤ
over m f = scaled (lowest_of f) m

-- the difference of the ends
abbrev pub span_of : ℤ → Axis → ℤ
span_of m a = over m a.high -ℤ over m a.low

-- the axis in whole numbers over a common denominator: the numbers from low on, each one step above the one before it, that are
-- at most high
unfoldable pub scale_of : ℤ → Axis → Scale
scale_of m a = record {
  name = a.name;
  low = over m a.low;
  step = unsigned_abs (over m a.step);
  count = count_of (span_of m a) (unsigned_abs (over m a.step));
}

-- the grid of the axes
abbrev pub grid_of : List Axis → Frame
grid_of axes = record { denominator = common axes; scales = map (scale_of (common axes)) axes }

-- a numerator over the denominator, or the difference of the ends, passes the limit
pub record AxisPasses (m : ℤ) (a : Axis) : Type 0 where
  pub cause : PastLimit (over m a.low) ⊎ (PastLimit (over m a.high) ⊎ (PastLimit (over m a.step) ⊎ PastLimit (span_of m a)))

-- none of them does
pub record AxisFits (m : ℤ) (a : Axis) : Type 0 where
  pub low_within : InLimit (over m a.low)
  pub high_within : InLimit (over m a.high)
  pub step_within : InLimit (over m a.step)
  pub span_within : InLimit (span_of m a)

-- the common denominator passes the limit, or a number of an axis over it
abbrev pub GridPasses : List Axis → Type 0
GridPasses axes = PastLimit (common axes) ⊎ SomeOf (AxisPasses (common axes)) axes

-- neither does
pub record GridFits (axes : List Axis) : Type 0 where
  pub common_within : InLimit (common axes)
  pub each_fits : AllByRecursion (AxisFits (common axes)) axes

-- the grid has more points than a grid may have
pub record HasTooMany (axes : List Axis) : Type 0 where
  pub fits : GridFits axes
  pub many : most_points < size (grid_of axes).scales
