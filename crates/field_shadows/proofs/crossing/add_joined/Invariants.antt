use Rattle.std.proofs.Common.{◌⊎◌, take}
use Rattle.logic_meaning.specs.Some.{SomeOf, Among, EachOf}
use Rattle.field_shadows.specs.Bounds.{IsJoined}
use Rattle.normal_atoms.specs.declared.atoms.Atom.{Atom}
use Rattle.field_shadows.proofs.crossing.add_joined.Given as goal

-- the atoms are the first ones and those of the lower bound with the upper ones so far
abbrev pub invariant-loop-upper : goal.invariant-loop-upper
invariant-loop-upper l = record {
  kept : (v : Atom) → Among l.initial.new.items v → Among l.new.items v;
  each : EachOf (λ a. SomeOf (IsJoined l.name.number a l.lower) l.new.items) (take l.upper-index l.uppers);
  from : EachOf (λ v. Among l.initial.new.items v ⊎ SomeOf (λ a. IsJoined l.name.number a l.lower v) l.uppers) l.new.items;
}
