use Rattle.std.proofs.Common.{map, take}
use Rattle.logic_meaning.specs.Context.{Integers}
use Rattle.normal_atoms.specs.Atoms.{atom_of}
use Rattle.atom_pruning.specs.Rows.{AreRows}
use Rattle.integer_shadows.proofs.pairs.rows.Given as goal

abbrev pub invariant-loop-atom : goal.invariant-loop-atom
invariant-loop-atom l = AreRows Integers (map atom_of (take l.atom-index l.atoms)) l.each.items
