use Rattle.case_theory.proofs.Fallback.{matrix_done}
use Rattle.case_theory.proofs.laws.matrix_is_done.Goals as goal

pub returns : goal.returns
returns c = matrix_done
