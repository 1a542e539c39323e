use Rattle.linear_theory.proofs.Targets.{target_found}
use Rattle.linear_theory.proofs.target_is_found.Goals as goal

pub returns : goal.returns
returns c = target_found
