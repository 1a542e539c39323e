use Rattle.case_theory.proofs.Ends.{pending_ends}
use Rattle.case_theory.proofs.laws.pending_ends.Goals as goal

pub returns : goal.returns
returns c = pending_ends
