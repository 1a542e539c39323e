-- Axes that rise, and their steps.
use Rattle.std.specs.Prelude.{ℕ, ℤ, pos, ◌<ℤ◌}
use Rattle.exact_numbers.specs.Divides.{Divides}
use Rattle.program_meaning.specs.declared.axis.Axis.{Axis}
use Rattle.program_meaning.specs.GridPoints.{lowest_of}

-- the step is positive
abbrev pub IsRising : Axis → Type 0
IsRising a = pos 0 <ℤ a.step.numerator

-- the number of the axis' name
abbrev pub name_of : Axis → ℕ
name_of a = a.name.number

-- the axis has a positive step, of which the denominator is a multiple of the one in lowest terms
pub record HasSteps (m : ℤ) (a : Axis) : Type 0 where
  pub rising : IsRising a
  pub multiple : Divides (lowest_of a.step).denominator m
