use Rattle.elimination_theory.proofs.Over.{cases_over}
use Rattle.elimination_theory.proofs.answers_have_names_before.Goals as goal

pub returns : goal.returns
returns c = cases_over
