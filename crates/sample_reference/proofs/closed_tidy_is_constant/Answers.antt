use Rattle.sample_reference.proofs.Constants.{closed_constant}
use Rattle.sample_reference.proofs.closed_tidy_is_constant.Goals as goal

pub returns : goal.returns
returns c = closed_constant
