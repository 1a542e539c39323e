use Rattle.normal_atoms.proofs.NormalLaws.{normal_in, normal_stays}
use Rattle.normal_atoms.proofs.laws.normal_atom_stays.Goals as goal

pub returns : goal.returns
returns c = λ x a n. (normal_in x a n, normal_stays x a n)
