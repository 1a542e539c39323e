use Rattle.elimination_theory.proofs.BothTheories.{all_not_ex}
use Rattle.elimination_theory.proofs.truth.all_is_not_ex_not.Goals as goal

pub returns : goal.returns
returns c = all_not_ex
