use Rattle.shape_theory.proofs.TreeLaws.{is_reduced}
use Rattle.shape_theory.proofs.simplified_is_reduced.Goals as goal

pub returns : goal.returns
returns c = is_reduced
