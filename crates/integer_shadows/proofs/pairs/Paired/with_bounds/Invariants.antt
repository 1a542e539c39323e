use Rattle.std.proofs.Common.{take}
use Rattle.integer_shadows.specs.Pairs.{IsMoreByBounds}
use Rattle.integer_shadows.proofs.pairs.Paired.with_bounds.Given as goal

abbrev pub invariant-loop-lower : goal.invariant-loop-lower
invariant-loop-lower l = IsMoreByBounds l.name.number l.step (take l.lower-index l.lowers) l.uppers l.fn.self l.paired
