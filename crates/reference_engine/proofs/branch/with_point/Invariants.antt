use Rattle.std.proofs.Common.{◌≡◌, ◌∷◌, take}
use Rattle.reference_engine.proofs.branch.with_point.Given as goal

-- the point and the copies so far
abbrev pub invariant-loop-other : goal.invariant-loop-other
invariant-loop-other l = l.all.items ≡ l.point ∷ take l.other-index l.points
