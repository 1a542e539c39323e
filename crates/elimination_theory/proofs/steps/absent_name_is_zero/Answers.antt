use Rattle.elimination_theory.proofs.Answers.{absent_zero}
use Rattle.elimination_theory.proofs.steps.absent_name_is_zero.Goals as goal

pub returns : goal.returns
returns c = absent_zero
