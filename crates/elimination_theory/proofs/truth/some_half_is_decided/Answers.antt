use Rattle.elimination_theory.proofs.SentenceExample.{some_half_decided}
use Rattle.elimination_theory.proofs.truth.some_half_is_decided.Goals as goal

pub returns : goal.returns
returns c = some_half_decided
