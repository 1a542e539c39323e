use Rattle.std.proofs.Common.{◌≡◌, ◌≤◌, drop, length}
use Rattle.std.specs.Prelude.{None}
use Rattle.smt_resolver.specs.Frames.{looked_up}
use Rattle.smt_resolver.proofs.frames.Frames.get.Given as goal

-- no place from here on binds the symbol
abbrev pub invariant-outwards : goal.invariant-outwards
invariant-outwards g l = record {
  within : l.place ≤ length l.self;
  away : looked_up (drop l.place l.self) l.name ≡ None;
}

abbrev pub decreases-outwards : goal.decreases-outwards
decreases-outwards g l = l.place
