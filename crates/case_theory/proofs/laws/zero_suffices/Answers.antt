use Rattle.case_theory.proofs.Points.{zero_point}
use Rattle.case_theory.proofs.laws.zero_suffices.Goals as goal

pub returns : goal.returns
returns c = zero_point
