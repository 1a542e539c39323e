-- Quotients rounded down, and residues.
use Rattle.std.proofs.Common.{◌≡◌, ◌<◌, ap, sym, arith}
use Rattle.std.proofs.Math.IntN.{ℤ, pos, negsuc, neg_ℤ, ◌+ℤ◌, ◌-ℤ◌, ◌*ℤ◌}
use Rattle.std.specs.Prelude.{◌<ℤ◌, ◌≤ℤ◌}
use Rattle.std.proofs.lemmas.Int.{ints}
use Rattle.std.proofs.lemmas.Nat.{mod_below}
use Rattle.std.proofs.Math.Nat.{div-add-mod}
use Rattle.exact_numbers.specs.Divides.{Divides, floor_of, residue_of}
use Rattle.exact_numbers.specs.Division.{IsFloor, IsResidue}
use Rattle.exact_numbers.proofs.Ring.{mul_add, mul_one}
use Rattle.exact_numbers.proofs.Order.{by_less, cancel_less, mul_at_most}
use Rattle.exact_numbers.proofs.Divisibility.{divides_along, divides_sub, divides_neg, divisor_at_most}

-- the floor times the divisor, and the residue, make up the number
pub floor_and_residue : (a b : ℤ) → pos 0 <ℤ b → b *ℤ floor_of a b +ℤ residue_of a b ≡ a
floor_and_residue (pos a) (pos b) h = ap pos (div-add-mod a b)
floor_and_residue (negsuc a) (pos b) h =
    let p : 0 < b = omega (arith, ints) in
    let e = div-add-mod a b in
    let m = mod_below a b p in
    omega (arith, ints)
floor_and_residue a (negsuc b) h = absurd h.lt

pub residue_not_negative : (a b : ℤ) → pos 0 ≤ℤ residue_of a b
residue_not_negative (pos a) b = omega (arith, ints)
residue_not_negative (negsuc a) b = omega (arith, ints)

pub residue_below : (a b : ℤ) → pos 0 <ℤ b → residue_of a b <ℤ b
residue_below (pos a) (pos b) h = let p : 0 < b = omega (arith, ints) in let m = mod_below a b p in omega (arith, ints)
residue_below (negsuc a) (pos b) h = let p : 0 < b = omega (arith, ints) in let m = mod_below a b p in omega (arith, ints)
residue_below a (negsuc b) h = absurd h.lt

pub floor_is : (a b : ℤ) → pos 0 <ℤ b → IsFloor a b (floor_of a b)
floor_is a b h =
    let e = floor_and_residue a b h in
    let n = residue_not_negative a b in
    let m = residue_below a b h in
    let d = mul_add b (floor_of a b) (pos 1) in
    let o = mul_one b in
    record { below = omega (arith, ints); above = omega (arith, ints) }

pub residue_is : (a b : ℤ) → pos 0 <ℤ b → IsResidue a b (residue_of a b)
residue_is a b h =
    let e = floor_and_residue a b h in
    record {
      not_negative = residue_not_negative a b;
      below = residue_below a b h;
      same = record { quotient = floor_of a b; exact = omega (arith, ints) };
    }

-- a quotient rounded down is one number
pub floor_unique : {a b p q : ℤ} → pos 0 <ℤ b → IsFloor a b p → IsFloor a b q → p ≡ q
floor_unique {a} {b} {p} {q} h f g =
    let l : (b *ℤ p) <ℤ (b *ℤ (q +ℤ pos 1)) = omega (arith, ints, f.below, g.above) in
    let m : (b *ℤ q) <ℤ (b *ℤ (p +ℤ pos 1)) = omega (arith, ints, g.below, f.above) in
    let x = cancel_less b h l in let y = cancel_less b h m in
    omega (arith, ints)

multiple_below : {m n : ℤ} → n <ℤ m → pos 0 ≤ℤ n → Divides m n → n ≡ pos 0
multiple_below {m} {n} b p d =
    by_less (pos 0) n
    (λ (q : pos 0 <ℤ n). let x = divisor_at_most q d in absurd (omega (arith, ints)))
    (λ (z : n ≤ℤ pos 0). omega (arith, ints))

-- numbers from 0 up to m - 1 that are apart by a multiple of m are one
pub residues_same : {m r s : ℤ} → pos 0 ≤ℤ r → r <ℤ m → pos 0 ≤ℤ s → s <ℤ m → Divides m (r -ℤ s) → r ≡ s
residues_same {m} {r} {s} rn rb sn sb d =
    by_less r s
    (λ (l : r <ℤ s).
    let e : neg_ℤ (r -ℤ s) ≡ s -ℤ r = omega (arith, ints) in
    let b : (s -ℤ r) <ℤ m = omega (arith, ints) in let p : pos 0 ≤ℤ (s -ℤ r) = omega (arith, ints) in
    let z = multiple_below b p (divides_along e (divides_neg d)) in omega (arith, ints))
    (λ (l : s ≤ℤ r).
    let b : (r -ℤ s) <ℤ m = omega (arith, ints) in let p : pos 0 ≤ℤ (r -ℤ s) = omega (arith, ints) in
    let z = multiple_below b p d in omega (arith, ints))

pub residue_unique : {a m r s : ℤ} → IsResidue a m r → IsResidue a m s → r ≡ s
residue_unique {a} {m} {r} {s} f g =
    let e : (a -ℤ s) -ℤ (a -ℤ r) ≡ r -ℤ s = omega (arith, ints) in
    residues_same f.not_negative f.below g.not_negative g.below (divides_along e (divides_sub g.same f.same))

-- a number that is divided has the residue 0, and the other way round
pub divides_from_residue : {a m : ℤ} → pos 0 <ℤ m → residue_of a m ≡ pos 0 → Divides m a
divides_from_residue {a} {m} h z =
    let e = floor_and_residue a m h in
    record { quotient = floor_of a m; exact = omega (arith, ints) }

pub residue_of_multiple : {a m : ℤ} → pos 0 <ℤ m → Divides m a → residue_of a m ≡ pos 0
residue_of_multiple {a} {m} h d =
    let r = residue_is a m h in
    let e : a -ℤ pos 0 ≡ a = omega (arith, ints) in
    let f : a ≡ a -ℤ pos 0 = sym e in
    let z : IsResidue a m (pos 0) = record { not_negative = omega (arith, ints); below = h; same = divides_along f d } in
    residue_unique r z

-- floors against bounds: q ≤ floor (a / b) exactly where b * q ≤ a
pub at_most_floor : {a b q : ℤ} (f : ℤ) → pos 0 <ℤ b → IsFloor a b f → (b *ℤ q) ≤ℤ a → q ≤ℤ f
at_most_floor {a} {b} {q} f h i l =
    let m : (b *ℤ q) <ℤ (b *ℤ (f +ℤ pos 1)) = omega (arith, ints, i.above) in
    let x = cancel_less b h m in omega (arith, ints)

pub from_at_most_floor : {a b q : ℤ} (f : ℤ) → pos 0 <ℤ b → IsFloor a b f → q ≤ℤ f → (b *ℤ q) ≤ℤ a
from_at_most_floor {a} {b} {q} f h i l =
    let p : pos 0 ≤ℤ b = omega (arith, ints) in
    let x = mul_at_most b p l in omega (arith, ints, i.below)
