use Rattle.elimination_theory.proofs.IntegerEliminate.{integer_elimination_exact}
use Rattle.elimination_theory.proofs.integers.integer_elimination_is_exact.Goals as goal

pub returns : goal.returns
returns c = integer_elimination_exact
