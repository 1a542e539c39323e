use Rattle.linear_theory.proofs.Targets.{exclude}
use Rattle.linear_theory.proofs.answers_exclude.Goals as goal

pub returns : goal.returns
returns c = exclude
