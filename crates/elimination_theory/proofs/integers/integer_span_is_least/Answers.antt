use Rattle.elimination_theory.proofs.IntegerLeast.{span_is_least, formula_span_is_least}
use Rattle.elimination_theory.proofs.integers.integer_span_is_least.Goals as goal

pub returns : goal.returns
returns c = record { atoms = span_is_least; formula = formula_span_is_least }
