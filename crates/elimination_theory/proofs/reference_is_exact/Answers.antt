use Rattle.elimination_theory.proofs.Sound.{reference_exact}
use Rattle.elimination_theory.proofs.reference_is_exact.Goals as goal

pub returns : goal.returns
returns c = reference_exact
