use Rattle.elimination_theory.proofs.BothTheories.{quantifier_eliminated}
use Rattle.elimination_theory.proofs.truth.one_quantifier_is_eliminated.Goals as goal

pub returns : goal.returns
returns c = quantifier_eliminated
