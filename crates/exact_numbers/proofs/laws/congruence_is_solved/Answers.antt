use Rattle.exact_numbers.proofs.Congruence.{solved, divides_solved}
use Rattle.exact_numbers.proofs.laws.congruence_is_solved.Goals as goal

pub returns : goal.returns
returns c = λ a b m g p. (divides_solved p, solved p)
