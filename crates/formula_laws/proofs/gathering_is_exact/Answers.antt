use Rattle.formula_laws.proofs.Gathered.{gathered_sorted, coefficient_gathered, constant_gathered, value_gathered, sorted_stays}
use Rattle.formula_laws.proofs.gathering_is_exact.Goals as goal

pub returns : goal.returns
returns c = λ f. record { sorted = gathered_sorted f; same_coefficients = λ x. coefficient_gathered x f; same_constant = constant_gathered f; same_values = value_gathered f; itself = sorted_stays f }
