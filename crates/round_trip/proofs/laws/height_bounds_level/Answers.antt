use Rattle.round_trip.proofs.Shallow.{height_bounds_level}
use Rattle.round_trip.proofs.laws.height_bounds_level.Goals as goal

pub returns : goal.returns
returns c = height_bounds_level
