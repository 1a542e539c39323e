use Rattle.exact_numbers.proofs.GreatestDivisor.{bezout}
use Rattle.exact_numbers.proofs.laws.bezout.Goals as goal

pub returns : goal.returns
returns c = λ a b g p. bezout p
