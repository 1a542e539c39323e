use Rattle.round_trip.proofs.Printed.{echo_is_answered}
use Rattle.round_trip.proofs.lines_read_back_laws.echo_is_answered.Goals as goal

pub returns : goal.returns
returns c = echo_is_answered
