use Rattle.elimination_theory.proofs.IntegerSample.{sample_is_true}
use Rattle.elimination_theory.proofs.integers.integer_sample_is_true.Goals as goal

pub returns : goal.returns
returns c = sample_is_true
