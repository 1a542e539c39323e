use Rattle.normal_atoms.proofs.PointLaws.{merged_names}
use Rattle.normal_atoms.proofs.atom_merging_laws.merging_brings_no_name.Goals as goal

pub returns : goal.returns
returns c = merged_names
