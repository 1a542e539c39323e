use Rattle.round_trip.proofs.Echo.{text_spells}
use Rattle.round_trip.proofs.laws.printed_text_spells.Goals as goal

pub returns : goal.returns
returns c = text_spells
