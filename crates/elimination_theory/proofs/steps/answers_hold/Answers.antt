use Rattle.elimination_theory.proofs.Answers.{answers_hold}
use Rattle.elimination_theory.proofs.steps.answers_hold.Goals as goal

pub returns : goal.returns
returns c = answers_hold
