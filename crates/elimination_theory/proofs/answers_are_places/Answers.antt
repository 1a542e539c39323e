use Rattle.elimination_theory.proofs.Over.{cases_have_answers}
use Rattle.elimination_theory.proofs.answers_are_places.Goals as goal

pub returns : goal.returns
returns c = cases_have_answers
