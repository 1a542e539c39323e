use Rattle.elimination_theory.proofs.PointsLowest.{points_lowest}
use Rattle.elimination_theory.proofs.points.field_points_are_in_lowest_terms.Goals as goal

pub returns : goal.returns
returns c = points_lowest
