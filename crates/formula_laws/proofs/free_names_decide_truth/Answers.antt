use Rattle.formula_laws.proofs.FreeNames.{tree_agrees}
use Rattle.formula_laws.proofs.free_names_decide_truth.Goals as goal

pub returns : goal.returns
returns c = tree_agrees
