use Rattle.elimination_theory.proofs.Sample.{samples_exact}
use Rattle.elimination_theory.proofs.samples_are_exact.Goals as goal

pub returns : goal.returns
returns c = samples_exact
