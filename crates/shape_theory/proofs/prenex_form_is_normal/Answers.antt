use Rattle.shape_theory.proofs.Whole.{is_normal}
use Rattle.shape_theory.proofs.prenex_form_is_normal.Goals as goal

pub returns : goal.returns
returns c = is_normal
