use Rattle.std.proofs.Common.{◌≡◌, take}
use Rattle.narrowed_blocks.proofs.open_block.copies.Given as goal

-- the atoms so far
abbrev pub invariant-loop-atom : goal.invariant-loop-atom
invariant-loop-atom l = l.copies.items ≡ take l.atom-index l.atoms
