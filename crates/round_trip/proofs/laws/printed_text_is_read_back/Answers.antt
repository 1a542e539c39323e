use Rattle.round_trip.proofs.Echo.{text_is_read_back}
use Rattle.round_trip.proofs.laws.printed_text_is_read_back.Goals as goal

pub returns : goal.returns
returns c = text_is_read_back
