use Rattle.normal_atoms.proofs.NormalLaws.{atom_decided}
use Rattle.normal_atoms.proofs.laws.atoms_are_decided.Goals as goal

pub returns : goal.returns
returns c = atom_decided
