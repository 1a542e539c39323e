-- The points of a frame.
use Rattle.std.specs.Prelude.{◌≡◌, ℕ, ◌≤◌, ℤ, pos, ◌<ℤ◌}
use Rattle.std.specs.List.{AllByRecursion}
use Rattle.logic_meaning.specs.Point.{Point}
use Rattle.program_meaning.specs.Scales.{choice, size}
use Rattle.point_grid.specs.ScaleWithin.{IsWithin}
use Rattle.program_meaning.specs.Frames.{Frame, point_over, most_points}

-- the point with this index
abbrev pub point_at : Frame → ℕ → Point ℕ
point_at f index = point_over f.denominator (choice (λ _. pos 0) f.scales index)

-- the numbers are within the limit, and there are not too many points, which are counted
pub record IsFrame (f : Frame) (points : ℕ) : Type 0 where
  pub positive : pos 0 <ℤ f.denominator
  pub within : AllByRecursion IsWithin f.scales
  pub counted : points ≡ size f.scales
  pub few : points ≤ most_points
