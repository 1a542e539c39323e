use Rattle.shape_theory.proofs.TreeLaws.{keeps_truth}
use Rattle.shape_theory.proofs.simplifying_keeps_truth.Goals as goal

pub returns : goal.returns
returns c = keeps_truth
