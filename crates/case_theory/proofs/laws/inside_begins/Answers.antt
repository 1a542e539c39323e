use Rattle.case_theory.proofs.Inside.{pending_inside}
use Rattle.case_theory.proofs.laws.inside_begins.Goals as goal

pub returns : goal.returns
returns c = pending_inside
