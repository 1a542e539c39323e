use Rattle.formula_laws.proofs.Equivalence.{congruence}
use Rattle.formula_laws.proofs.equivalence_is_congruence.Goals as goal

pub returns : goal.returns
returns c = congruence
