use Rattle.elimination_theory.proofs.Samples.{samples_true}
use Rattle.elimination_theory.proofs.steps.samples_are_true.Goals as goal

pub returns : goal.returns
returns c = samples_true
