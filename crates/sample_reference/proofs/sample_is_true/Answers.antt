use Rattle.sample_reference.proofs.Sound.{sample_true}
use Rattle.sample_reference.proofs.sample_is_true.Goals as goal

pub returns : goal.returns
returns c = sample_true
