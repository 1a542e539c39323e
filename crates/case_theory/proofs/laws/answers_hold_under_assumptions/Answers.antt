use Rattle.case_theory.proofs.Under.{answers_under}
use Rattle.case_theory.proofs.laws.answers_hold_under_assumptions.Goals as goal

pub returns : goal.returns
returns c = answers_under
