use Rattle.elimination_theory.proofs.AnswersExample.{period_of_the_branch}
use Rattle.elimination_theory.proofs.steps.period_of_the_branch.Goals as goal

pub returns : goal.returns
returns c = period_of_the_branch
