use Rattle.elimination_theory.proofs.BothTheories.{decided}
use Rattle.elimination_theory.proofs.truth.truth_is_decided.Goals as goal

pub returns : goal.returns
returns c = decided
