use Rattle.linear_theory.proofs.WeakTargets.{targets_have_least}
use Rattle.linear_theory.proofs.weak_targets_have_least.Goals as goal

pub returns : goal.returns
returns c = targets_have_least
