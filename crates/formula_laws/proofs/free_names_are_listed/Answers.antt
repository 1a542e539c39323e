use Rattle.formula_laws.proofs.TreeNames.{names_listed}
use Rattle.formula_laws.proofs.free_names_are_listed.Goals as goal

pub returns : goal.returns
returns c = names_listed
