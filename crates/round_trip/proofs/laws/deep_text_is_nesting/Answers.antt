use Rattle.round_trip.proofs.Echo.{deep_text_is_nesting}
use Rattle.round_trip.proofs.laws.deep_text_is_nesting.Goals as goal

pub returns : goal.returns
returns c = deep_text_is_nesting
