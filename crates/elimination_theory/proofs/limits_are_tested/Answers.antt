use Rattle.elimination_theory.proofs.Limits.{limits_tested}
use Rattle.elimination_theory.proofs.limits_are_tested.Goals as goal

pub returns : goal.returns
returns c = limits_tested
