use Rattle.elimination_theory.proofs.Sample.{truth_told}
use Rattle.elimination_theory.proofs.truth_is_told.Goals as goal

pub returns : goal.returns
returns c = truth_told
