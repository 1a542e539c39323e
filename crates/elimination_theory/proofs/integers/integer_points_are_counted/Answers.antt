use Rattle.elimination_theory.proofs.IntegerCount.{points_are_counted}
use Rattle.elimination_theory.proofs.integers.integer_points_are_counted.Goals as goal

pub returns : goal.returns
returns c = points_are_counted
