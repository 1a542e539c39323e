use Rattle.shape_theory.proofs.Whole.{keeps_truth}
use Rattle.shape_theory.proofs.prenex_form_keeps_truth.Goals as goal

pub returns : goal.returns
returns c = keeps_truth
