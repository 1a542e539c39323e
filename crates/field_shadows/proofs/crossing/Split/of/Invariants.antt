use Rattle.std.proofs.Common.{take, map}
use Rattle.logic_meaning.specs.Some.{EachOf}
use Rattle.normal_atoms.specs.Atoms.{atom_of}
use Rattle.field_shadows.specs.Bounds.{IsUpper, IsLower, IsSeen}
use Rattle.field_shadows.proofs.crossing.Split.of.Given as goal

-- the bounds are those of the atoms, and the atoms so far are seen
abbrev pub invariant-loop-atom : goal.invariant-loop-atom
invariant-loop-atom l = record {
  uppers : EachOf (IsUpper l.name.number (map atom_of l.atoms)) l.split.uppers.items;
  lowers : EachOf (IsLower l.name.number (map atom_of l.atoms)) l.split.lowers.items;
  seen : EachOf (λ a. IsSeen l.name.number l.split (atom_of a)) (take l.atom-index l.atoms);
}
