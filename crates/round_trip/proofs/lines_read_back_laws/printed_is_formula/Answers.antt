use Rattle.round_trip.proofs.Printed.{printed_is_formula}
use Rattle.round_trip.proofs.lines_read_back_laws.printed_is_formula.Goals as goal

pub returns : goal.returns
returns c = printed_is_formula
