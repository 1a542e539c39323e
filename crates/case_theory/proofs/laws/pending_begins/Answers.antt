use Rattle.case_theory.proofs.Pending.{pending_begins}
use Rattle.case_theory.proofs.laws.pending_begins.Goals as goal

pub returns : goal.returns
returns c = pending_begins
