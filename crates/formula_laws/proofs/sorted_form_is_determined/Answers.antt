use Rattle.formula_laws.proofs.Sorted.{sorted_determined}
use Rattle.formula_laws.proofs.sorted_form_is_determined.Goals as goal

pub returns : goal.returns
returns c = sorted_determined
