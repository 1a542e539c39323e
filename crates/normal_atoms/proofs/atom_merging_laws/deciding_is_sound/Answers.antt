use Rattle.normal_atoms.proofs.PointLaws.{implied_says, excluded_says}
use Rattle.normal_atoms.proofs.atom_merging_laws.deciding_is_sound.Goals as goal

pub returns : goal.returns
returns c = λ x a b n m p o. (implied_says x a b n m p o, excluded_says x a b n m p o)
