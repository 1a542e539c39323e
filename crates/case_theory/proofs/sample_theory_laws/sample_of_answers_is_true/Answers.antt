use Rattle.case_theory.proofs.Found.{sample_of_answers}
use Rattle.case_theory.proofs.sample_theory_laws.sample_of_answers_is_true.Goals as goal

pub returns : goal.returns
returns c = sample_of_answers
