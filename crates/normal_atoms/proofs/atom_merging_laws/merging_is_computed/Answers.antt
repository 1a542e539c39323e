use Rattle.normal_atoms.proofs.Computed.{merged_right, decided_right}
use Rattle.normal_atoms.proofs.atom_merging_laws.merging_is_computed.Goals as goal

pub returns : goal.returns
returns c = record { merging = merged_right; deciding = decided_right }
