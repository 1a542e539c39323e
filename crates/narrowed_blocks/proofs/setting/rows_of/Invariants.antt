use Rattle.std.proofs.Common.{map, take}
use Rattle.normal_atoms.specs.Atoms.{context_of, atom_of}
use Rattle.atom_pruning.specs.Rows.{AreRows}
use Rattle.narrowed_blocks.proofs.setting.rows_of.Given as goal

-- the rows of the atoms so far
abbrev pub invariant-loop-atom : goal.invariant-loop-atom
invariant-loop-atom l = AreRows (context_of l.context) (map atom_of (take l.atom-index l.atoms)) l.rows.items
