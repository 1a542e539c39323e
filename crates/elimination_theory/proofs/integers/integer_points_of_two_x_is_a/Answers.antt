use Rattle.elimination_theory.proofs.IntegerExamples.{points_of_two_x_is_a}
use Rattle.elimination_theory.proofs.integers.integer_points_of_two_x_is_a.Goals as goal

pub returns : goal.returns
returns c = points_of_two_x_is_a
