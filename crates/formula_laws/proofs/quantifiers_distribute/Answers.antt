use Rattle.formula_laws.proofs.Equivalence.{distributed}
use Rattle.formula_laws.proofs.quantifiers_distribute.Goals as goal

pub returns : goal.returns
returns c = distributed
