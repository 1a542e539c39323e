use Rattle.case_theory.proofs.Points.{root_point}
use Rattle.case_theory.proofs.laws.root_suffices.Goals as goal

pub returns : goal.returns
returns c = root_point
