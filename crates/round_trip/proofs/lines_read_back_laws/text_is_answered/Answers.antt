use Rattle.round_trip.proofs.Answered.{text_is_answered}
use Rattle.round_trip.proofs.lines_read_back_laws.text_is_answered.Goals as goal

pub returns : goal.returns
returns c = text_is_answered
