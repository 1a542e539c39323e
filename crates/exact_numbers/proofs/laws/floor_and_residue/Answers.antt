use Rattle.exact_numbers.proofs.Floor.{floor_is, floor_unique, residue_is, residue_unique}
use Rattle.exact_numbers.proofs.laws.floor_and_residue.Goals as goal

pub returns : goal.returns
returns c = record { floor = floor_is; only_floor = λ a b q h p. floor_unique h p (floor_is a b h); residue = residue_is; only_residue = λ a m r h p. residue_unique p (residue_is a m h) }
