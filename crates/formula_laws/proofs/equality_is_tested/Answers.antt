use Rattle.formula_laws.proofs.TreeNames.{equality_tested}
use Rattle.formula_laws.proofs.equality_is_tested.Goals as goal

pub returns : goal.returns
returns c = equality_tested
