use Rattle.std.proofs.Common.{◌≡◌, map, drop}
use Rattle.logic_meaning.specs.Reference.{stands_among}
use Rattle.normal_atoms.specs.Atoms.{atom_of}
use Rattle.nnf_trees.proofs.results.stands_in_some.Given as goal

abbrev pub invariant-loop-atom : goal.invariant-loop-atom
invariant-loop-atom l = stands_among l.x.number (map atom_of (drop l.atom-index l.atoms)) ≡ stands_among l.x.number (map atom_of l.atoms)
