use Rattle.elimination_theory.proofs.OneStep.{steps_exact}
use Rattle.elimination_theory.proofs.steps.steps_are_exact.Goals as goal

pub returns : goal.returns
returns c = steps_exact
