use Rattle.elimination_theory.proofs.IntegerExamples.{points_of_even_above_a}
use Rattle.elimination_theory.proofs.integers.integer_points_of_even_above_a.Goals as goal

pub returns : goal.returns
returns c = points_of_even_above_a
