use Rattle.case_theory.proofs.Known.{known_point}
use Rattle.case_theory.proofs.sample_theory_laws.known_are_the_point.Goals as goal

pub returns : goal.returns
returns c = known_point
