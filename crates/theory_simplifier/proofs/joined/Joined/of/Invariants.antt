use Rattle.std.proofs.Common.{◌≡◌, map, take}
use Rattle.logic_meaning.specs.declared.junction.Junction.TheVariants.{Conjunction}
use Rattle.normal_atoms.specs.Atoms.{atom_of}
use Rattle.theory_simplifier.proofs.joined.Joined.of.Given as goal

abbrev pub invariant-loop-atom : goal.invariant-loop-atom
invariant-loop-atom l = l.list ≡ record { junction = Conjunction; atoms = map atom_of (take l.atom-index l.atoms) }
