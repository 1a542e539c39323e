-- The least number of the machine, over an even and over an odd number.
use Rattle.std.proofs.Common.{◌≡◌, ℕ, zero, suc, arith, sym, ap, ap₂, ◌∙◌, subst}
use Rattle.std.proofs.Math.IntN.{ℤ, pos, negsuc, ◌+ℤ◌, ◌-ℤ◌, ◌*ℤ◌}
use Rattle.std.specs.Prelude.{◌<ℤ◌, int_div}
use Rattle.std.proofs.lemmas.Int.{ints}
use Rattle.exact_numbers.specs.Divides.{Divides, IsGcd, gcd_of}
use Rattle.exact_numbers.specs.Division.{IsResidue}
use Rattle.exact_numbers.specs.Frac.{Frac, lowest}
use Rattle.exact_numbers.specs.Limit.{PastLimit}
use Rattle.exact_numbers.proofs.Ring.{ring, mul_assoc}
use Rattle.exact_numbers.proofs.Order.{cancel_positive}
use Rattle.exact_numbers.proofs.Divisibility.{divides_along, divides_add, divides_sub, divides_neg, divides_mul, one_divides, mul_divides_mul}
use Rattle.exact_numbers.proofs.GreatestDivisor.{gcd_is, gcd_of_is, bezout}
use Rattle.exact_numbers.proofs.LeastMultiple.{exact_div}
use Rattle.exact_numbers.proofs.FractionRule.{divisor_positive}

-- ---- both halved

gcd_doubled : (a b : ℤ) → IsGcd (pos 2 *ℤ a) (pos 2 *ℤ b) (pos 2 *ℤ gcd_of a b)
gcd_doubled a b =
    let h = gcd_is a b in
    let g = gcd_of a b in
    let n = h.not_negative in
    record {
      not_negative = omega (arith, ints, n);
      left = mul_divides_mul (pos 2) h.left;
      right = mul_divides_mul (pos 2) h.right;
      greatest = λ d x y.
          let k = bezout h in
          let s = k.sum in
          let p = mul_assoc (pos 2) a k.first in
          let q = mul_assoc (pos 2) b k.second in
          let e : (pos 2 *ℤ a) *ℤ k.first +ℤ (pos 2 *ℤ b) *ℤ k.second ≡ pos 2 *ℤ g = omega (arith, ints, p, q, s) in
          divides_along e (divides_add (divides_mul k.first x) (divides_mul k.second y));
    }

divided_doubled : (n g : ℤ) → pos 0 <ℤ g → Divides g n → int_div (pos 2 *ℤ n) (pos 2 *ℤ g) ≡ int_div n g
divided_doubled n g h d =
    let one = exact_div g n (λ (z : g ≡ pos 0). absurd (omega (arith, ints, z, h))) d in
    let two = exact_div (pos 2 *ℤ g) (pos 2 *ℤ n) (λ (z : pos 2 *ℤ g ≡ pos 0). absurd (omega (arith, ints, z, h))) (mul_divides_mul (pos 2) d) in
    let above : pos 0 <ℤ (pos 2 *ℤ g) = omega (arith, ints, h) in
    cancel_positive (pos 2 *ℤ g) above (two ∙ sym (mul_assoc (pos 2) g (int_div n g) ∙ ap (λ z. pos 2 *ℤ z) one))

pub lowest_halved : (n d a b : ℤ) → n ≡ pos 2 *ℤ a → d ≡ pos 2 *ℤ b → pos 0 <ℤ b → lowest n d ≡ lowest a b
lowest_halved n d a b e f h =
    let g = gcd_of a b in
    let same = gcd_of_is (gcd_doubled a b) in
    let positive = divisor_positive a b h in
    let is = gcd_is a b in
    ap₂ lowest e f
    ∙ ap₂ (λ u v. let r : Frac = record { numerator = u; denominator = v } in r)
    (ap (int_div (pos 2 *ℤ a)) (sym same) ∙ divided_doubled a g positive is.left)
    (ap (int_div (pos 2 *ℤ b)) (sym same) ∙ divided_doubled b g positive is.right)

-- ---- over an odd number

two_power : ℕ → ℤ
two_power zero = pos 1
two_power (suc n) = pos 2 *ℤ two_power n

split_odd : (m p : ℤ) → (pos 2 *ℤ m +ℤ pos 1) *ℤ p -ℤ (pos 2 *ℤ p) *ℤ m ≡ p
split_odd m p = simp ring (omega (arith, ints))

odd_divides : (n : ℕ) (k d m : ℤ) → d ≡ pos 2 *ℤ m +ℤ pos 1 → Divides k d → Divides k (two_power n) → Divides k (pos 1)
unfolding two_power
odd_divides zero k d m e x y = y
odd_divides (suc n) k d m e x y =
    odd_divides n k d m e x
    (divides_along (ap (λ z. z *ℤ two_power n -ℤ (pos 2 *ℤ two_power n) *ℤ m) e ∙ split_odd m (two_power n)) (divides_sub (divides_mul (two_power n) x) (divides_mul m y)))

abbrev pub least : ℤ
least = negsuc 170141183460469231731687303715884105727

least_power : Divides (pos 1) (pos 1) → (k : ℤ) → Divides k least → Divides k (two_power 127)
unfolding two_power
least_power u k x = divides_neg x

pub odd_past : (d r : ℤ) → IsResidue d (pos 2) r → ¬ (r ≡ pos 0) → PastLimit (lowest least d).numerator
odd_past d r h n =
    let below = h.below in
    let up = h.not_negative in
    let s = h.same.exact in
    let one : r ≡ pos 1 = omega (arith, ints, below, up, n) in
    let odd : d ≡ pos 2 *ℤ h.same.quotient +ℤ pos 1 = omega (arith, ints, s, one) in
    let is : IsGcd least d (pos 1) = record { not_negative = omega (arith, ints); left = one_divides least; right = one_divides d; greatest = λ k x y. odd_divides 127 k d h.same.quotient odd y (least_power (one_divides (pos 1)) k x) } in
    let past : PastLimit (int_div least (pos 1)) = omega arith in
    subst (λ g. PastLimit (int_div least g)) (gcd_of_is is) past
