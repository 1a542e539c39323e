use Rattle.std.proofs.Common.{map, take}
use Rattle.normal_atoms.specs.Atoms.{atom_of}
use Rattle.integer_shadows.specs.Solving.{IsSolved}
use Rattle.integer_shadows.proofs.solving.solved.Given as goal

abbrev pub invariant-loop-atom : goal.invariant-loop-atom
invariant-loop-atom l = IsSolved l.name.number l.equation (map atom_of (take l.atom-index l.atoms)) l.fn.shadow l.solved
