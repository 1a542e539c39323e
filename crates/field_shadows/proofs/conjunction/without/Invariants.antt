use Rattle.std.proofs.Common.{◌≡◌, take}
use Rattle.std.specs.Prelude.{filter}
use Rattle.normal_atoms.specs.Atoms.{atom_of}
use Rattle.field_shadows.specs.Rest.{is_without}
use Rattle.field_shadows.proofs.conjunction.without.Given as goal

-- those so far
abbrev pub invariant-loop-atom : goal.invariant-loop-atom
invariant-loop-atom l = l.kept.items ≡ filter (λ a. is_without l.name.number (atom_of a)) (take l.atom-index l.atoms)
