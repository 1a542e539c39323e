use Rattle.shape_theory.proofs.Longer.{no_longer}
use Rattle.shape_theory.proofs.simplifying_lengthens_no_text.Goals as goal

pub returns : goal.returns
returns c = no_longer
