use Rattle.std.proofs.Common.{map, take}
use Rattle.normal_atoms.specs.Atoms.{atom_of}
use Rattle.integer_shadows.proofs.Binding.{AreSorted}
use Rattle.integer_shadows.proofs.sides.sorted.Given as goal

-- the sides say what the atoms so far do
abbrev pub invariant-loop-atom : goal.invariant-loop-atom
invariant-loop-atom l = AreSorted l.name.number (map atom_of l.atoms) (map atom_of (take l.atom-index l.atoms)) l.fn.shadow l.sides
