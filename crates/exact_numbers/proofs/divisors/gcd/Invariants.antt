use Rattle.std.proofs.Common.{ℕ, ◌<◌, ◌^◌}
use Rattle.std.specs.Prelude.{unsigned_abs}
use Rattle.std.specs.Int.{IsGcd as IsNatGcd}
use Rattle.exact_numbers.proofs.divisors.gcd.Given as goal

-- the pair left has the greatest common divisor of the absolute values
abbrev pub invariant-loop-right : goal.invariant-loop-right
invariant-loop-right l =
    record {
      left_within : l.left < 2 ^ 127;
      right_within : l.right < 2 ^ 127;
      keeps : (g : ℕ) → IsNatGcd l.left l.right g → IsNatGcd (unsigned_abs l.a) (unsigned_abs l.b) g;
    }

abbrev pub decreases-loop-right : goal.decreases-loop-right
decreases-loop-right l = l.right
