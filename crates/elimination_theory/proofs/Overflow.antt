-- The scale and the multiplied moduli divide the span, so they are within the limit where it is.
use Rattle.std.proofs.Common.{ℕ, ◌*◌, ◌/◌, ◌<◌, ◌^◌, pos, ◌<ℤ◌, ◌≤ℤ◌, arith, unsigned_abs}
use Rattle.std.proofs.lemmas.Int.{ints}
use Rattle.exact_numbers.specs.Divides.{Divides}
use Rattle.exact_numbers.specs.Limit.{InLimit}
use Rattle.exact_numbers.proofs.Divisibility.{divides_same, divisor_at_most}
use Rattle.logic_meaning.specs.Form.{coefficient}
use Rattle.logic_meaning.specs.Atom.{Atom, Compare, Congruent}
use Rattle.logic_meaning.specs.IntegersPoints.{scale_of, own_span}
use Rattle.elimination_theory.specs.IntegersTheorems.{SpansAtom}
use Rattle.elimination_theory.specs.SpanLimits.{MultipliedWithin, SpanLimits}
use Rattle.elimination_theory.proofs.SomeListed.{each_map}
use Rattle.elimination_theory.proofs.IntegerLeast.{span_is_least}

divisor_within : (n d : ℕ) → 0 < d → Divides (pos n) (pos d) → InLimit (pos d) → InLimit (pos n)
divisor_within n d h e l = let m = divisor_at_most (pos_is_positive d h) e in within n d m l
  where
    pos_is_positive : (d : ℕ) → 0 < d → pos 0 <ℤ pos d
    pos_is_positive d h = omega (arith, ints)

    within : (n d : ℕ) → pos n ≤ℤ pos d → unsigned_abs (pos d) < 2 ^ 127 → unsigned_abs (pos n) < 2 ^ 127
    within n d m l = omega (arith, ints)

modulus_within : (x l d : ℕ) → 0 < d → InLimit (pos d) → (a : Atom) → SpansAtom x l d a → MultipliedWithin x l a
modulus_within x l d h limit (Compare r f) s = tt
modulus_within x l d h limit (Congruent holds m f) s = λ n. divisor_within (m * (l / unsigned_abs (coefficient x f))) d h (s n) limit

pub span_limits : SpanLimits
span_limits x atoms inside limit =
    let s = span_is_least x atoms inside in
    let t = (s.1 (own_span x atoms)).1 (divides_same (pos (own_span x atoms))) in
    record {
      scale = divisor_within (scale_of x atoms) (own_span x atoms) s.0 t.0 limit;
      moduli = each_map (SpansAtom x (scale_of x atoms) (own_span x atoms)) _ (modulus_within x (scale_of x atoms) (own_span x atoms) s.0 limit) atoms t.1;
    }
