use Rattle.std.proofs.Common.{◌≡◌, ◌⊎◌, pos, take, map}
use Rattle.logic_meaning.specs.Some.{SomeOf, EachOf}
use Rattle.logic_meaning.specs.Form.{coefficient}
use Rattle.logic_meaning.specs.Atom.{form_of}
use Rattle.normal_atoms.specs.Atoms.{atom_of}
use Rattle.field_shadows.specs.Equations.{IsPutAway}
use Rattle.field_shadows.proofs.equation.put_away.Given as goal

-- the new atoms are those of the atoms so far
abbrev pub invariant-loop-atom : goal.invariant-loop-atom
invariant-loop-atom l = record {
  each : EachOf (λ a. (coefficient l.name.number (form_of (atom_of a)) ≡ pos 0) ⊎ SomeOf (IsPutAway l.name.number l.equation (atom_of a)) l.new.items) (take l.atom-index l.atoms);
  from : EachOf (λ v. SomeOf (λ u. IsPutAway l.name.number l.equation u v) (map atom_of l.atoms)) l.new.items;
}
