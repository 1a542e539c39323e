use Rattle.shape_theory.proofs.Whole.{keeps_names}
use Rattle.shape_theory.proofs.prenex_form_keeps_names.Goals as goal

pub returns : goal.returns
returns c = keeps_names
