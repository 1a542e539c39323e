use Rattle.exact_numbers.proofs.GreatestDivisor.{gcd_is, gcd_of_is}
use Rattle.exact_numbers.proofs.laws.greatest_common_divisor.Goals as goal

pub returns : goal.returns
returns c = record { is_one = gcd_is; only_one = λ a b g p. gcd_of_is p }
