use Rattle.elimination_theory.proofs.IntegerHolds.{substitution_holds}
use Rattle.elimination_theory.proofs.integers.integer_substitution_is_exact.Goals as goal

pub returns : goal.returns
returns c = substitution_holds
