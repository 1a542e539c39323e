use Rattle.round_trip.proofs.Bare.{names_stay_writable}
use Rattle.round_trip.proofs.lines_read_back_laws.names_stay_writable.Goals as goal

pub returns : goal.returns
returns c = names_stay_writable
