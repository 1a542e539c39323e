use Rattle.elimination_theory.proofs.IntegerExamples.{substitution_of_two_x_is_a}
use Rattle.elimination_theory.proofs.integers.integer_substitution_of_two_x_is_a.Goals as goal

pub returns : goal.returns
returns c = substitution_of_two_x_is_a
