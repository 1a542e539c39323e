use Rattle.elimination_theory.proofs.IntegerEliminate.{points_suit}
use Rattle.elimination_theory.proofs.integers.integer_test_points_suit.Goals as goal

pub returns : goal.returns
returns c = points_suit
