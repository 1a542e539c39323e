use Rattle.elimination_theory.proofs.Samples.{samples_exist}
use Rattle.elimination_theory.proofs.steps.samples_exist.Goals as goal

pub returns : goal.returns
returns c = samples_exist
