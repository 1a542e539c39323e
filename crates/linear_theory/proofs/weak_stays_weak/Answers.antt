use Rattle.linear_theory.proofs.Weak.{stays_weak}
use Rattle.linear_theory.proofs.weak_stays_weak.Goals as goal

pub returns : goal.returns
returns c = stays_weak
