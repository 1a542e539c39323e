use Rattle.case_theory.proofs.CriticalSet.{value_of_atoms}
use Rattle.case_theory.proofs.sample_theory_laws.value_is_of_atoms.Goals as goal

pub returns : goal.returns
returns c = value_of_atoms
