-- Whether there is room for a name.
use Rattle.std.proofs.Common.{Bool, true, false}
use Rattle.std.specs.Bool.{MatchBool}

-- a test of one fact is a test of one that is the same
pub told_along : {P Q : Type 0} (b : Bool) → (P → Q) → (Q → P) → MatchBool b P (¬ P) → MatchBool b Q (¬ Q)
told_along true f g h = f h
told_along false f g h = λ q. h (g q)
