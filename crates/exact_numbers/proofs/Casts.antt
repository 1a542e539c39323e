-- Numbers within the limit as 128 bits, and back.
use Rattle.std.proofs.Common.{◌≡◌, ap, sym, ◌∙◌, arith}
use Rattle.std.proofs.Math.IntN.{ℤ, pos, negsuc}
use Rattle.std.specs.Prelude.{FitsSigned, int_div, ◌≤ℤ◌, ◌<ℤ◌}
use Rattle.std.specs.Int.{w128, cast_signed, cast_unsigned}
use Rattle.std.proofs.lemmas.Int.{ints, to_z-of_z, fits_signed_from_abs, quot_is, quot_fits}
use Rattle.exact_numbers.specs.Limit.{InLimit}

pub fits : (z : ℤ) → InLimit z → FitsSigned w128 z
fits z h = fits_signed_from_abs w128 z h

-- a number within the limit is read back from its bits
pub read_back : (z : ℤ) → InLimit z → cast_signed w128 (cast_unsigned w128 z) ≡ z
read_back z h = to_z-of_z w128 z (fits z h)

-- numbers within the limit with the same bits are one
pub same_bits : (a b : ℤ) → InLimit a → InLimit b → cast_unsigned w128 a ≡ cast_unsigned w128 b → a ≡ b
same_bits a b h k e = sym (read_back a h) ∙ ap (cast_signed w128) e ∙ read_back b k

pub zero_bits : (z : ℤ) → InLimit z → cast_unsigned w128 z ≡ 0 → z ≡ pos 0
zero_bits z h e = same_bits z (pos 0) h (omega arith) e

-- bits that are not 0 are those of a number that is not 0
pub positive_bits : (z : ℤ) → pos 0 ≤ℤ z → ¬ (cast_unsigned w128 z ≡ 0) → pos 0 <ℤ z
positive_bits (pos n) h k = let f : ¬ (n ≡ 0) = k in omega (arith, ints)
positive_bits (negsuc n) h k = absurd (omega (arith, ints))

-- what the code's quotient by a positive number gives
pub quotient_of_bits : (a d e : ℤ) → FitsSigned w128 a → FitsSigned w128 d → pos 0 <ℤ d → d ≡ e → cast_signed w128 (cast_unsigned w128 (int_div (cast_signed w128 (cast_unsigned w128 a)) (cast_signed w128 (cast_unsigned w128 d)))) ≡ int_div a e
quotient_of_bits a d e fa fd p q = quot_is w128 a d fa fd (quot_fits w128 a d fa p) ∙ ap (int_div a) q
