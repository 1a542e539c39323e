use Rattle.formula_laws.proofs.TreeFiner.{tree_same_point}
use Rattle.formula_laws.proofs.same_point_keeps_truth.Goals as goal

pub returns : goal.returns
returns c = tree_same_point
