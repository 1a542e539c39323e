use Rattle.case_theory.proofs.Fit.{answers_fit}
use Rattle.case_theory.proofs.laws.answers_fit.Goals as goal

pub returns : goal.returns
returns c = answers_fit
