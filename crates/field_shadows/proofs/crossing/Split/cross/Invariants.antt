use Rattle.std.proofs.Common.{take}
use Rattle.logic_meaning.specs.Some.{SomeOf, EachOf}
use Rattle.field_shadows.specs.Bounds.{IsJoined}
use Rattle.field_shadows.proofs.crossing.Split.cross.Given as goal

-- the new atoms are those of the lower bounds so far with each upper one
abbrev pub invariant-loop-lower : goal.invariant-loop-lower
invariant-loop-lower l = record {
  each : EachOf (λ b. EachOf (λ a. SomeOf (IsJoined l.name.number a b) l.new.items) l.self.uppers.items) (take l.lower-index l.self.lowers.items);
  from : EachOf (λ v. SomeOf (λ b. SomeOf (λ a. IsJoined l.name.number a b v) l.self.uppers.items) l.self.lowers.items) l.new.items;
}
