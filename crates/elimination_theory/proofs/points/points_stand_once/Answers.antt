use Rattle.elimination_theory.proofs.StandOnce.{points_once}
use Rattle.elimination_theory.proofs.points.points_stand_once.Goals as goal

pub returns : goal.returns
returns c = points_once
