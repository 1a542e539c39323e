use Rattle.elimination_theory.proofs.IntegerHolds.{atom_holds}
use Rattle.elimination_theory.proofs.integers.integer_atom_is_exact.Goals as goal

pub returns : goal.returns
returns c = atom_holds
