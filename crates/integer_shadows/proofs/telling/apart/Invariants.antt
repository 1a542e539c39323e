use Rattle.std.proofs.Common.{map, take}
use Rattle.normal_atoms.specs.Atoms.{atom_of}
use Rattle.integer_shadows.proofs.Keeping.{AreKept}
use Rattle.integer_shadows.proofs.telling.apart.Given as goal

abbrev pub invariant-loop-atom : goal.invariant-loop-atom
invariant-loop-atom l = AreKept l.name.number (map atom_of l.atoms) (map atom_of (take l.atom-index l.atoms)) l.kept.items
