use Rattle.elimination_theory.proofs.BothTheories.{every_quantifier_eliminated}
use Rattle.elimination_theory.proofs.truth.quantifiers_are_eliminated.Goals as goal

pub returns : goal.returns
returns c = every_quantifier_eliminated
