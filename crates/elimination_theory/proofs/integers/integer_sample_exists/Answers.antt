use Rattle.elimination_theory.proofs.IntegerSample.{sample_exists}
use Rattle.elimination_theory.proofs.integers.integer_sample_exists.Goals as goal

pub returns : goal.returns
returns c = sample_exists
