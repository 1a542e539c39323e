use Rattle.elimination_theory.proofs.BothTheories.{normal_form_true}
use Rattle.elimination_theory.proofs.truth.negation_normal_form_keeps_truth.Goals as goal

pub returns : goal.returns
returns c = normal_form_true
