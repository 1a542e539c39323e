use Rattle.smt_theorems.proofs.Made.{sentence_is_made}
use Rattle.smt_theorems.proofs.sentence_is_made.Goals as goal

pub returns : goal.returns
returns c = sentence_is_made
