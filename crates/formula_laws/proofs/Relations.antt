-- Relations of whole numbers under positive and negative factors.
use Rattle.std.proofs.Common.{◌≡◌, ap, subst, arith, ◌↔◌, sym}
use Rattle.std.proofs.Math.IntN.{ℤ, pos, ◌-ℤ◌, ◌*ℤ◌, neg_ℤ}
use Rattle.std.specs.Prelude.{◌<ℤ◌, ◌≤ℤ◌}
use Rattle.std.proofs.lemmas.Int.{ints}
use Rattle.exact_numbers.proofs.Ring.{mul_zero}
use Rattle.exact_numbers.proofs.Order.{mul_less, mul_at_most, cancel_less, cancel_at_most, cancel_positive}
use Rattle.logic_meaning.specs.Atom.{Relation, Equals, Differs, Below, AtMost, Above, AtLeast, Relates, mirrored}

pub weaken : {k : ℤ} → pos 0 <ℤ k → pos 0 ≤ℤ k
weaken {k} h = omega (arith, ints)

-- a relation of equal numbers
pub relates_along : (r : Relation) {a b : ℤ} (c : ℤ) → a ≡ b → Relates r a c ↔ Relates r b c
relates_along r {a} {b} c e = subst (λ z. Relates r a c ↔ Relates r z c) e (λ h. h, λ h. h)

-- a positive factor keeps each relation
pub relates_mul : (r : Relation) (k a b : ℤ) → pos 0 <ℤ k → Relates r a b ↔ Relates r (k *ℤ a) (k *ℤ b)
relates_mul Equals k a b h = (λ e. ap (λ z. k *ℤ z) e, λ e. cancel_positive k h e)
relates_mul Differs k a b h = (λ n e. n (cancel_positive k h e), λ n e. n (ap (λ z. k *ℤ z) e))
relates_mul Below k a b h = (mul_less k h, cancel_less k h)
relates_mul AtMost k a b h = (mul_at_most k (weaken h), cancel_at_most k h)
relates_mul Above k a b h = (mul_less k h, cancel_less k h)
relates_mul AtLeast k a b h = (mul_at_most k (weaken h), cancel_at_most k h)

-- a positive factor keeps each relation to 0
pub relates_zero_mul : (r : Relation) (k a : ℤ) → pos 0 <ℤ k → Relates r a (pos 0) ↔ Relates r (k *ℤ a) (pos 0)
relates_zero_mul r k a h = subst (λ z. Relates r a (pos 0) ↔ Relates r (k *ℤ a) z) (mul_zero k) (relates_mul r k a (pos 0) h)

-- two numbers compare as their difference does with 0
pub relates_difference : (r : Relation) (a b : ℤ) → Relates r (a -ℤ b) (pos 0) ↔ Relates r a b
relates_difference Equals a b = (λ (e : a -ℤ b ≡ pos 0). omega (arith, ints), λ (e : a ≡ b). omega (arith, ints))
relates_difference Differs a b = (λ n (e : a ≡ b). n (omega (arith, ints)), λ n (e : a -ℤ b ≡ pos 0). n (omega (arith, ints)))
relates_difference Below a b = (λ (h : (a -ℤ b) <ℤ pos 0). omega (arith, ints), λ (h : a <ℤ b). omega (arith, ints))
relates_difference AtMost a b = (λ (h : (a -ℤ b) ≤ℤ pos 0). omega (arith, ints), λ (h : a ≤ℤ b). omega (arith, ints))
relates_difference Above a b = (λ (h : pos 0 <ℤ (a -ℤ b)). omega (arith, ints), λ (h : b <ℤ a). omega (arith, ints))
relates_difference AtLeast a b = (λ (h : pos 0 ≤ℤ (a -ℤ b)). omega (arith, ints), λ (h : b ≤ℤ a). omega (arith, ints))

-- a change of sign mirrors each relation to 0
pub relates_neg : (r : Relation) (a : ℤ) → Relates r (neg_ℤ a) (pos 0) ↔ Relates (mirrored r) a (pos 0)
relates_neg Equals a = (λ (e : neg_ℤ a ≡ pos 0). omega (arith, ints), λ (e : a ≡ pos 0). omega (arith, ints))
relates_neg Differs a = (λ n (e : a ≡ pos 0). n (omega (arith, ints)), λ n (e : neg_ℤ a ≡ pos 0). n (omega (arith, ints)))
relates_neg Below a = (λ (h : neg_ℤ a <ℤ pos 0). omega (arith, ints), λ (h : pos 0 <ℤ a). omega (arith, ints))
relates_neg AtMost a = (λ (h : neg_ℤ a ≤ℤ pos 0). omega (arith, ints), λ (h : pos 0 ≤ℤ a). omega (arith, ints))
relates_neg Above a = (λ (h : pos 0 <ℤ neg_ℤ a). omega (arith, ints), λ (h : a <ℤ pos 0). omega (arith, ints))
relates_neg AtLeast a = (λ (h : pos 0 ≤ℤ neg_ℤ a). omega (arith, ints), λ (h : a ≤ℤ pos 0). omega (arith, ints))

-- two numbers that change places mirror each relation
pub relates_turn : (r : Relation) (a b : ℤ) → Relates r a b ↔ Relates (mirrored r) b a
relates_turn Equals a b = (sym, sym)
relates_turn Differs a b = (λ n e. n (sym e), λ n e. n (sym e))
relates_turn Below a b = (λ h. h, λ h. h)
relates_turn AtMost a b = (λ h. h, λ h. h)
relates_turn Above a b = (λ h. h, λ h. h)
relates_turn AtLeast a b = (λ h. h, λ h. h)
