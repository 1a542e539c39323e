use Rattle.elimination_theory.proofs.BothTheories.{one_suffices}
use Rattle.elimination_theory.proofs.truth.one_quantifier_suffices.Goals as goal

pub returns : goal.returns
returns c = one_suffices
