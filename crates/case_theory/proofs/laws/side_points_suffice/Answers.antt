use Rattle.case_theory.proofs.Points.{side_points}
use Rattle.case_theory.proofs.laws.side_points_suffice.Goals as goal

pub returns : goal.returns
returns c = side_points
