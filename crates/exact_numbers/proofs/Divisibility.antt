-- Divisibility on ℤ.
use Rattle.std.proofs.Common.{◌≡◌, ◌*◌, ◌/◌, ℕ, ap, sym, ◌∙◌, subst, arith}
use Rattle.std.proofs.Math.IntN.{ℤ, pos, negsuc, neg_ℤ, ◌+ℤ◌, ◌-ℤ◌, ◌*ℤ◌}
use Rattle.std.specs.Prelude.{◌<ℤ◌, ◌≤ℤ◌, unsigned_abs}
use Rattle.std.specs.Int.{◌∣◌}
use Rattle.std.proofs.Math.Nat.{mul-div_cancel', dvd-mul_right}
use Rattle.std.proofs.lemmas.Int.{ints, unsigned_abs-mul}
use Rattle.exact_numbers.specs.Divides.{Divides}
use Rattle.exact_numbers.proofs.Ring.{mul_comm, mul_assoc, mul_add, mul_neg, neg_mul, mul_zero, zero_mul, mul_one, one_mul}
use Rattle.exact_numbers.proofs.Order.{by_zero, by_less, cancel, at_most_mul, factor_positive}

pub divides_same : (a : ℤ) → Divides a a
divides_same a = record { quotient = pos 1; exact = sym (mul_one a) }

pub divides_zero : (d : ℤ) → Divides d (pos 0)
divides_zero d = record { quotient = pos 0; exact = sym (mul_zero d) }

pub one_divides : (a : ℤ) → Divides (pos 1) a
one_divides a = record { quotient = a; exact = sym (one_mul a) }

-- 0 divides only 0
pub zero_divides : {a : ℤ} → Divides (pos 0) a → a ≡ pos 0
zero_divides d = d.exact ∙ zero_mul d.quotient

pub divides_trans : {a b c : ℤ} → Divides a b → Divides b c → Divides a c
divides_trans {a} d e = record { quotient = d.quotient *ℤ e.quotient; exact = e.exact ∙ ap (λ z. z *ℤ e.quotient) d.exact ∙ mul_assoc a d.quotient e.quotient }

pub divides_along : {d a b : ℤ} → a ≡ b → Divides d a → Divides d b
divides_along e h = record { quotient = h.quotient; exact = sym e ∙ h.exact }

pub divides_add : {d a b : ℤ} → Divides d a → Divides d b → Divides d (a +ℤ b)
divides_add {d} {a} {b} h k =
    let p = h.exact in let q = k.exact in let m = mul_add d h.quotient k.quotient in
    record { quotient = h.quotient +ℤ k.quotient; exact = omega (arith, ints) }

pub divides_neg : {d a : ℤ} → Divides d a → Divides d (neg_ℤ a)
divides_neg {d} h = record { quotient = neg_ℤ h.quotient; exact = ap neg_ℤ h.exact ∙ sym (mul_neg d h.quotient) }

pub divides_sub : {d a b : ℤ} → Divides d a → Divides d b → Divides d (a -ℤ b)
divides_sub h k = divides_add h (divides_neg k)

pub neg_divides : {d a : ℤ} → Divides d a → Divides (neg_ℤ d) a
neg_divides {d} h =
    let m = mul_neg (neg_ℤ d) h.quotient in let n = neg_mul d h.quotient in let p = h.exact in
    record { quotient = neg_ℤ h.quotient; exact = omega (arith, ints) }

pub divides_mul : {d a : ℤ} (k : ℤ) → Divides d a → Divides d (a *ℤ k)
divides_mul {d} k h = record { quotient = h.quotient *ℤ k; exact = ap (λ z. z *ℤ k) h.exact ∙ mul_assoc d h.quotient k }

pub divides_mul_left : {d a : ℤ} (k : ℤ) → Divides d a → Divides d (k *ℤ a)
divides_mul_left {d} {a} k h = divides_along (mul_comm a k) (divides_mul k h)

-- the sum is divided exactly where the second part is
pub divides_other : {d a b : ℤ} → Divides d a → Divides d (a +ℤ b) → Divides d b
divides_other {d} {a} {b} h k = let e : (a +ℤ b) -ℤ a ≡ b = omega (arith, ints) in divides_along e (divides_sub k h)

pub mul_divides_mul : {d a : ℤ} (k : ℤ) → Divides d a → Divides (k *ℤ d) (k *ℤ a)
mul_divides_mul {d} k h = record { quotient = h.quotient; exact = ap (λ z. k *ℤ z) h.exact ∙ sym (mul_assoc k d h.quotient) }

pub cancel_divides : {d a : ℤ} (k : ℤ) → ¬ (k ≡ pos 0) → Divides (k *ℤ d) (k *ℤ a) → Divides d a
cancel_divides {d} {a} k n h = record { quotient = h.quotient; exact = cancel k n (h.exact ∙ mul_assoc k d h.quotient) }

-- a positive number is at least each of its divisors
pub divisor_at_most : {d a : ℤ} → pos 0 <ℤ a → Divides d a → d ≤ℤ a
divisor_at_most {d} {a} p h =
    by_less (pos 0) d
    (λ (dp : pos 0 <ℤ d).
    let e : pos 0 <ℤ (d *ℤ h.quotient) = subst (λ (z : ℤ). pos 0 <ℤ z) h.exact p in
    let qp = factor_positive dp e in
    let q : pos 0 ≤ℤ d = omega (arith, ints) in
    let m = at_most_mul qp q in let c = mul_comm d h.quotient in let x = h.exact in omega (arith, ints))
    (λ (dn : d ≤ℤ pos 0). omega (arith, ints))

-- two numbers that are not negative and divide each other are one
pub divides_both : {a b : ℤ} → pos 0 ≤ℤ a → pos 0 ≤ℤ b → Divides a b → Divides b a → a ≡ b
divides_both {a} {b} pa pb h k =
    by_zero a
    (λ z. z ∙ sym (zero_divides (subst (λ (x : ℤ). Divides x b) z h)))
    (λ n. by_zero b
    (λ z. zero_divides (subst (λ (x : ℤ). Divides x a) z k) ∙ sym z)
    (λ m.
    let ap' : pos 0 <ℤ a = omega (arith, ints) in let bp : pos 0 <ℤ b = omega (arith, ints) in
    let x = divisor_at_most bp h in let y = divisor_at_most ap' k in omega (arith, ints)))

-- ---- against ℕ

pub abs_sign : (a : ℤ) → Divides (pos (unsigned_abs a)) a
abs_sign (pos n) = divides_same (pos n)
abs_sign (negsuc n) = neg_divides (divides_same (negsuc n))

pub sign_abs : (a : ℤ) → Divides a (pos (unsigned_abs a))
sign_abs (pos n) = divides_same (pos n)
sign_abs (negsuc n) = divides_neg (divides_same (negsuc n))

divides_from_nat : (d n : ℕ) → d ∣ n → Divides (pos d) (pos n)
divides_from_nat d n h = record { quotient = pos (n / d); exact = ap pos (sym (mul-div_cancel' d h)) }

pub divides_from_abs : (d a : ℤ) → unsigned_abs d ∣ unsigned_abs a → Divides d a
divides_from_abs d a h = divides_trans (sign_abs d) (divides_trans (divides_from_nat (unsigned_abs d) (unsigned_abs a) h) (abs_sign a))

pub abs_divides : (d a : ℤ) → Divides d a → unsigned_abs d ∣ unsigned_abs a
abs_divides d a h =
    let e : unsigned_abs d * unsigned_abs h.quotient ≡ unsigned_abs a = sym (ap unsigned_abs h.exact ∙ unsigned_abs-mul d h.quotient) in
    subst (λ (n : ℕ). unsigned_abs d ∣ n) e (dvd-mul_right (unsigned_abs d) (unsigned_abs h.quotient))
