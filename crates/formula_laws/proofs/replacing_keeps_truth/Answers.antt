use Rattle.formula_laws.proofs.TreeReplacing.{tree_replacing}
use Rattle.formula_laws.proofs.replacing_keeps_truth.Goals as goal

pub returns : goal.returns
returns c = tree_replacing
