use Rattle.formula_laws.proofs.Equivalence.{absent_dropped}
use Rattle.formula_laws.proofs.absent_name_is_dropped.Goals as goal

pub returns : goal.returns
returns c = absent_dropped
