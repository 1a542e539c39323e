use Rattle.normal_atoms.proofs.PointLaws.{merged_says, settled_says}
use Rattle.normal_atoms.proofs.atom_merging_laws.merging_keeps_truth.Goals as goal

pub returns : goal.returns
returns c = record { truth = merged_says; settled = settled_says }
