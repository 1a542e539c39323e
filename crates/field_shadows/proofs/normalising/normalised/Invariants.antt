use Rattle.std.proofs.Common.{◌++◌, map}
use Rattle.normal_atoms.specs.Atoms.{atom_of}
use Rattle.field_shadows.specs.Normalised.{AreNormalised}
use Rattle.field_shadows.proofs.normalising.normalised.Given as goal

-- the atoms that are kept are the normal forms of those so far
abbrev pub invariant-loop-atom : goal.invariant-loop-atom
invariant-loop-atom l = AreNormalised (map atom_of l.initial.kept.items ++ map atom_of l.yielded) l.kept.items
