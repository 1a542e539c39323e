use Rattle.round_trip.proofs.Accepted.{written_is_resolved}
use Rattle.round_trip.proofs.laws.written_formula_is_resolved.Goals as goal

pub returns : goal.returns
returns c = written_is_resolved
