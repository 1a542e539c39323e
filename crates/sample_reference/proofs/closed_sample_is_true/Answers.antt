use Rattle.sample_reference.proofs.Closed.{closed_sample_true}
use Rattle.sample_reference.proofs.closed_sample_is_true.Goals as goal

pub returns : goal.returns
returns c = closed_sample_true
