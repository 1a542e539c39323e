use Rattle.shape_theory.proofs.CleanFormsTreeLaws.{keeps_truth}
use Rattle.shape_theory.proofs.cleaning_keeps_truth.Goals as goal

pub returns : goal.returns
returns c = keeps_truth
