use Rattle.std.proofs.Common.{◌≡◌, take}
use Rattle.branch_rounds.proofs.rounds.with_last.Given as goal

abbrev pub invariant-loop-point : goal.invariant-loop-point
invariant-loop-point l = l.copies.items ≡ take l.point-index l.points
