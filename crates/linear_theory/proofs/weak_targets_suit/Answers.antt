use Rattle.linear_theory.proofs.WeakTargets.{targets_suit}
use Rattle.linear_theory.proofs.weak_targets_suit.Goals as goal

pub returns : goal.returns
returns c = targets_suit
