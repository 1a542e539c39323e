use Rattle.smt_meaning.proofs.Captures.{nothing_is_captured}
use Rattle.smt_meaning.proofs.nothing_is_captured.Goals as goal

pub returns : goal.returns
returns c = nothing_is_captured
