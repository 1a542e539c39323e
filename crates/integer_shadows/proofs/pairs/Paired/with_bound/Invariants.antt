use Rattle.std.proofs.Common.{take}
use Rattle.integer_shadows.specs.Pairs.{IsMoreByBound}
use Rattle.integer_shadows.proofs.pairs.Paired.with_bound.Given as goal

abbrev pub invariant-loop-upper : goal.invariant-loop-upper
invariant-loop-upper l = IsMoreByBound l.name.number l.step l.lower (take l.upper-index l.uppers) l.fn.self l.paired
