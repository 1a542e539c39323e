-- The least common multiple: it divides exactly the common multiples.
use Rattle.std.proofs.Common.{◌≡◌, ◌<◌, ap, sym, ◌∙◌, arith}
use Rattle.std.proofs.Math.IntN.{ℤ, pos, ◌+ℤ◌, ◌-ℤ◌, ◌*ℤ◌}
use Rattle.std.specs.Prelude.{◌<ℤ◌, ◌≤ℤ◌, unsigned_abs, int_div, int_rem}
use Rattle.std.proofs.Math.Nat.{le_of_dvd}
use Rattle.std.proofs.lemmas.Int.{ints, quot-rem, rem_below}
use Rattle.exact_numbers.specs.Divides.{Divides, IsGcd, gcd_of, lcm_of}
use Rattle.exact_numbers.specs.Division.{IsLcm}
use Rattle.exact_numbers.proofs.Ring.{ring, mul_comm, mul_assoc, mul_left_comm}
use Rattle.exact_numbers.proofs.Order.{by_less, cancel_positive, mul_positive, factor_positive}
use Rattle.exact_numbers.proofs.Divisibility.{divides_same, divides_along, divides_both, divides_mul, divides_sub, abs_divides, divides_trans}
use Rattle.exact_numbers.proofs.GreatestDivisor.{gcd_is, gcd_positive, bezout}

exact_rem : (d a : ℤ) → ¬ (d ≡ pos 0) → Divides d a → int_rem a d ≡ pos 0
exact_rem d a n h =
    let e = quot-rem a d in
    let c = mul_comm (int_div a d) d in
    let f : a -ℤ d *ℤ int_div a d ≡ int_rem a d = omega (arith, ints) in
    let r = divides_along f (divides_sub h (divides_mul (int_div a d) (divides_same d))) in
    let z : 0 < unsigned_abs d = omega (arith, ints) in
    let b = rem_below a d z in
    by_less (pos 0) (pos (unsigned_abs (int_rem a d)))
    (λ (p : pos 0 <ℤ pos (unsigned_abs (int_rem a d))).
    let q : 0 < unsigned_abs (int_rem a d) = omega (arith, ints) in
    let l = le_of_dvd q (abs_divides d (int_rem a d) r) in absurd (omega arith))
    (λ (p : pos (unsigned_abs (int_rem a d)) ≤ℤ pos 0). omega (arith, ints))

-- division without a remainder
pub exact_div : (d a : ℤ) → ¬ (d ≡ pos 0) → Divides d a → d *ℤ int_div a d ≡ a
exact_div d a n h =
    let e = quot-rem a d in let c = mul_comm (int_div a d) d in let z = exact_rem d a n h in omega (arith, ints)

-- n g = a b (t x + s y) where n = a s = b t and g = a x + b y
common_multiple : (a b g k n s t x y : ℤ) → g *ℤ k ≡ a → a *ℤ x +ℤ b *ℤ y ≡ g → n ≡ a *ℤ s → n ≡ b *ℤ t → g *ℤ n ≡ g *ℤ (k *ℤ b *ℤ (t *ℤ x +ℤ s *ℤ y))
common_multiple a b g k n s t x y ek eg es et =
    let p = simp ring at (ap (λ z. z *ℤ n) (sym eg)) in
    let q = simp ring at (ap (λ z. z *ℤ (a *ℤ x)) et) in
    let r = simp ring at (ap (λ z. z *ℤ (b *ℤ y)) es) in
    let u = simp ring at (ap (λ z. z *ℤ (b *ℤ (t *ℤ x))) ek) in
    let v = simp ring at (ap (λ z. z *ℤ (b *ℤ (s *ℤ y))) ek) in
    simp ring (omega (arith, ints, p, q, r, u, v))

-- a / g times b, where g is the greatest common divisor
pub lcm_by_gcd : {a b g : ℤ} (k : ℤ) → pos 0 <ℤ a → pos 0 <ℤ b → IsGcd a b g → g *ℤ k ≡ a → IsLcm a b (k *ℤ b)
lcm_by_gcd {a} {b} {g} k pa pb p e =
    let n : ¬ (b ≡ pos 0) = λ (z : b ≡ pos 0). omega (arith, ints) in
    let gp = gcd_positive p n in
    let f : pos 0 <ℤ (g *ℤ k) = omega (arith, ints) in
    let kp = factor_positive gp f in
    let c = bezout p in
    record {
      positive = mul_positive kp pb;
      left = record { quotient = p.right.quotient; exact = ap (λ z. k *ℤ z) p.right.exact ∙ mul_left_comm k g p.right.quotient ∙ sym (mul_assoc g k p.right.quotient) ∙ ap (λ z. z *ℤ p.right.quotient) e };
      right = record { quotient = k; exact = mul_comm k b };
      least = λ m x y. record { quotient = y.quotient *ℤ c.first +ℤ x.quotient *ℤ c.second; exact = cancel_positive g gp (common_multiple a b g k m x.quotient y.quotient c.first c.second e c.sum x.exact y.exact) };
    }

pub lcm_is : {a b : ℤ} → pos 0 <ℤ a → pos 0 <ℤ b → IsLcm a b (lcm_of a b)
unfolding lcm_of
lcm_is {a} {b} pa pb =
    let p = gcd_is a b in
    let n : ¬ (b ≡ pos 0) = λ (z : b ≡ pos 0). omega (arith, ints) in
    let gp = gcd_positive p n in
    let m : ¬ (gcd_of a b ≡ pos 0) = λ (z : gcd_of a b ≡ pos 0). omega (arith, ints) in
    lcm_by_gcd (int_div a (gcd_of a b)) pa pb p (exact_div (gcd_of a b) a m p.left)

-- there is one least common multiple
pub lcm_unique : {a b m n : ℤ} → IsLcm a b m → IsLcm a b n → m ≡ n
lcm_unique {m = m} {n = n} p q =
    let x = p.positive in let y = q.positive in
    divides_both (omega (arith, ints)) (omega (arith, ints)) (p.least n q.left q.right) (q.least m p.left p.right)

-- it divides exactly the common multiples
pub lcm_divides : {a b m n : ℤ} → IsLcm a b m → Divides m n → Divides a n × Divides b n
lcm_divides p h = (divides_trans p.left h, divides_trans p.right h)
