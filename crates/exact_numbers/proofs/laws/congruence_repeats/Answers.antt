use Rattle.exact_numbers.proofs.Congruence.{periodic}
use Rattle.exact_numbers.proofs.laws.congruence_repeats.Goals as goal

pub returns : goal.returns
returns c = periodic
