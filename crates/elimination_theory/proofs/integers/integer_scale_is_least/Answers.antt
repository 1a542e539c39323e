use Rattle.elimination_theory.proofs.IntegerLeast.{scale_is_least, formula_scale_is_least}
use Rattle.elimination_theory.proofs.integers.integer_scale_is_least.Goals as goal

pub returns : goal.returns
returns c = record { atoms = scale_is_least; formula = formula_scale_is_least }
