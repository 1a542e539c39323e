use Rattle.normal_atoms.proofs.Meaning.{meaning_determines}
use Rattle.normal_atoms.proofs.laws.meaning_determines_atom.Goals as goal

pub returns : goal.returns
returns c = meaning_determines
