use Rattle.linear_theory.proofs.LeastTheoryFound.{least_found}
use Rattle.linear_theory.proofs.least_is_found.Goals as goal

pub returns : goal.returns
returns c = least_found
