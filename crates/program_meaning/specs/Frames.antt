-- Scales over one denominator, and their points.
use Rattle.std.specs.Prelude.{ℕ, ℤ, pos, List, map, unsigned_abs}
use Rattle.logic_meaning.specs.Point.{Point}
use Rattle.program_meaning.specs.declared.scale.Scale.{Scale}
use Rattle.program_meaning.specs.Scales.{choices}

-- scales, whose numbers stand over this denominator
pub record Frame : Type 0 where
  pub denominator : ℤ
  pub scales : List Scale

-- the numbers over the denominator are a point
abbrev pub point_over : ℤ → (ℕ → ℤ) → Point ℕ
point_over denominator numbers = record { at = numbers; below = unsigned_abs denominator }

-- the points, that of the first scale changing slowest; each name without a scale is at 0
abbrev pub points_of : Frame → List (Point ℕ)
points_of f = map (point_over f.denominator) (choices (λ _. pos 0) f.scales)

-- so many points at most has a grid
abbrev pub most_points : ℕ
most_points = 1000000
