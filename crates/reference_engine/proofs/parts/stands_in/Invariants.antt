use Rattle.std.proofs.Common.{◌≡◌, drop, nat_eq}
use Rattle.logic_meaning.specs.Shape.{is_in}
use Rattle.reference_engine.specs.Told.{numbers}
use Rattle.reference_engine.proofs.parts.stands_in.Given as goal

abbrev pub invariant-loop-name : goal.invariant-loop-name
invariant-loop-name l = is_in nat_eq l.x.number (numbers (drop l.name-index l.names)) ≡ is_in nat_eq l.x.number (numbers l.names)
