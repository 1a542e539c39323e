use Rattle.exact_numbers.proofs.LeastMultiple.{lcm_is, lcm_divides}
use Rattle.exact_numbers.proofs.laws.least_common_multiple_divides.Goals as goal

pub returns : goal.returns
returns c = record { is_one = λ a b h k. lcm_is h k; divides = λ a b m n p. (lcm_divides p, λ h. p.least n h.0 h.1) }
