use Rattle.elimination_theory.proofs.PointsSorted.{points_sorted}
use Rattle.elimination_theory.proofs.points.points_are_sorted.Goals as goal

pub returns : goal.returns
returns c = points_sorted
