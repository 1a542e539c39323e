use Rattle.std.proofs.Common.{map, take}
use Rattle.normal_atoms.specs.Atoms.{context_of, atom_of}
use Rattle.atom_pruning.specs.Rows.{AreRows}
use Rattle.branch_pruning.proofs.rows.rows_of_atoms.Given as goal

abbrev pub invariant-loop-atom : goal.invariant-loop-atom
invariant-loop-atom l = AreRows (context_of l.context) (map atom_of (take l.atom-index l.atoms)) l.each.items
