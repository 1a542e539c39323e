use Rattle.case_theory.proofs.Pending.{pending_goes_on}
use Rattle.case_theory.proofs.laws.pending_goes_on.Goals as goal

pub returns : goal.returns
returns c = pending_goes_on
