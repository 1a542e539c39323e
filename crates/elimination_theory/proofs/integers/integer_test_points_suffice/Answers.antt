use Rattle.elimination_theory.proofs.IntegerSuffice.{integer_points_suffice}
use Rattle.elimination_theory.proofs.integers.integer_test_points_suffice.Goals as goal

pub returns : goal.returns
returns c = integer_points_suffice
