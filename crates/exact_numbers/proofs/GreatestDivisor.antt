-- The greatest common divisor, with the factors that combine to it.
use Rattle.std.proofs.Common.{◌≡◌, ◌<◌, ◌%◌, ℕ, zero, suc, ap, sym, ◌∙◌, refl, subst, arith}
use Rattle.std.proofs.Math.IntN.{ℤ, pos, neg_ℤ, ◌+ℤ◌, ◌-ℤ◌, ◌*ℤ◌}
use Rattle.std.specs.Prelude.{◌<ℤ◌, ◌≤ℤ◌, unsigned_abs}
use Rattle.std.specs.Int.{IsGcd as IsNatGcd}
use Rattle.std.proofs.lemmas.Int.{ints}
use Rattle.std.proofs.lemmas.Nat.{mod_below}
use Rattle.std.proofs.lemmas.Nat.Gcd.{IsGcd-from_mod, IsGcd-from_zero}
use Rattle.exact_numbers.specs.Divides.{IsGcd, floor_of, residue_of, euclid, gcd_of}
use Rattle.exact_numbers.specs.Division.{Combines}
use Rattle.exact_numbers.proofs.Ring.{ring, mul_assoc, mul_one, mul_zero, mul_neg, zero_mul}
use Rattle.exact_numbers.proofs.Order.{by_zero, by_less}
use Rattle.exact_numbers.proofs.Divisibility.{divides_same, divides_zero, divides_along, divides_add, divides_sub, divides_neg, neg_divides, divides_mul, divides_trans, divides_both, sign_abs, abs_sign, divides_from_abs, abs_divides}
use Rattle.exact_numbers.proofs.Floor.{floor_and_residue, residue_not_negative, residue_below}

-- ---- the number that Euclid's algorithm gives

euclid_is : (n a b : ℕ) → b < n → IsNatGcd a b (euclid n a b)
unfolding euclid
euclid_is zero a b h = absurd (omega arith)
euclid_is (suc n) a zero h = IsGcd-from_zero a zero refl
euclid_is (suc n) a (suc b) h =
    let m = mod_below a (suc b) (omega arith) in
    IsGcd-from_mod a (suc b) (euclid n (suc b) (a % suc b)) (euclid_is n (suc b) (a % suc b) (omega arith))

-- a greatest common divisor of the absolute values is one of the numbers
pub gcd_from_abs : (a b : ℤ) (g : ℕ) → IsNatGcd (unsigned_abs a) (unsigned_abs b) g → IsGcd a b (pos g)
gcd_from_abs a b g h =
    record {
      not_negative = omega (arith, ints);
      left = divides_from_abs (pos g) a h.0;
      right = divides_from_abs (pos g) b h.1;
      greatest = λ d x y. divides_from_abs d (pos g) (h.2 (unsigned_abs d) (abs_divides d a x) (abs_divides d b y));
    }

pub gcd_is : (a b : ℤ) → IsGcd a b (gcd_of a b)
unfolding gcd_of
gcd_is a b = gcd_from_abs a b (euclid (suc (unsigned_abs b)) (unsigned_abs a) (unsigned_abs b)) (euclid_is (suc (unsigned_abs b)) (unsigned_abs a) (unsigned_abs b) (omega arith))

-- there is one greatest common divisor
pub gcd_unique : {a b g h : ℤ} → IsGcd a b g → IsGcd a b h → g ≡ h
gcd_unique {g = g} {h = h} p q = divides_both p.not_negative q.not_negative (q.greatest g p.left p.right) (p.greatest h q.left q.right)

pub gcd_of_is : {a b g : ℤ} → IsGcd a b g → g ≡ gcd_of a b
gcd_of_is {a} {b} p = gcd_unique p (gcd_is a b)

pub gcd_swap : {a b g : ℤ} → IsGcd a b g → IsGcd b a g
gcd_swap p = record { not_negative = p.not_negative; left = p.right; right = p.left; greatest = λ d x y. p.greatest d y x }

pub gcd_comm : (a b : ℤ) → gcd_of a b ≡ gcd_of b a
gcd_comm a b = gcd_of_is (gcd_swap (gcd_is a b))

-- it is 0 only where both numbers are
pub gcd_positive : {a b g : ℤ} → IsGcd a b g → ¬ (b ≡ pos 0) → pos 0 <ℤ g
gcd_positive {a} {b} {g} p n =
    by_less (pos 0) g (λ h. h)
    (λ (l : g ≤ℤ pos 0).
    let m = p.not_negative in
    let z : g ≡ pos 0 = omega (arith, ints) in
    absurd (n (p.right.exact ∙ ap (λ x. x *ℤ p.right.quotient) z ∙ zero_mul p.right.quotient)))

-- ---- the factors

record HasFactors (a b : ℤ) : Type 0 where
  gcd : ℤ
  is_gcd : IsGcd a b gcd
  factors : Combines a b gcd

factors_at_zero : (a b : ℤ) → b ≡ pos 0 → HasFactors a b
factors_at_zero a b e =
    by_less a (pos 0)
    (λ (l : a <ℤ pos 0).
    let g : IsGcd a b (neg_ℤ a) = record { not_negative = omega (arith, ints); left = neg_divides (divides_same a); right = divides_along (sym e) (divides_zero (neg_ℤ a)); greatest = λ d x y. divides_neg x } in
    let m = mul_neg a (pos 1) in let o = mul_one a in let z = mul_zero b in
    let c : Combines a b (neg_ℤ a) = record { first = neg_ℤ (pos 1); second = pos 0; sum = omega (arith, ints) } in
    record { gcd = neg_ℤ a; is_gcd = g; factors = c })
    (λ (l : pos 0 ≤ℤ a).
    let g : IsGcd a b a = record { not_negative = l; left = divides_same a; right = divides_along (sym e) (divides_zero a); greatest = λ d x y. x } in
    let o = mul_one a in let z = mul_zero b in
    let c : Combines a b a = record { first = pos 1; second = pos 0; sum = omega (arith, ints) } in
    record { gcd = a; is_gcd = g; factors = c })

gcd_step : {a b r g : ℤ} (q : ℤ) → b *ℤ q +ℤ r ≡ a → IsGcd b r g → IsGcd a b g
gcd_step {a} {b} {r} {g} q e p =
    let f : a -ℤ b *ℤ q ≡ r = omega (arith, ints) in
    record {
      not_negative = p.not_negative;
      left = divides_along e (divides_add (divides_mul q p.left) p.right);
      right = p.left;
      greatest = λ d x y. p.greatest d y (divides_along f (divides_sub x (divides_mul q y)));
    }

-- b x + r y with r = a - b q is a y + b (x - q y)
regroup : (a b q r x y g : ℤ) → b *ℤ q +ℤ r ≡ a → b *ℤ x +ℤ r *ℤ y ≡ g → a *ℤ y +ℤ b *ℤ (x -ℤ q *ℤ y) ≡ g
regroup a b q r x y g e f =
    let k = simp ring at (ap (λ z. z *ℤ y) e) in
    simp ring (omega (arith, ints, k, f))

factors_step : {a b r : ℤ} (q : ℤ) → b *ℤ q +ℤ r ≡ a → HasFactors b r → HasFactors a b
factors_step {a} {b} {r} q e p =
    let c : Combines a b p.gcd = record { first = p.factors.second; second = p.factors.first -ℤ q *ℤ p.factors.second; sum = regroup a b q r p.factors.first p.factors.second p.gcd e p.factors.sum } in
    record { gcd = p.gcd; is_gcd = gcd_step q e p.is_gcd; factors = c }

factors_within : (n : ℕ) (a b : ℤ) → pos 0 ≤ℤ b → b ≤ℤ pos n → HasFactors a b
factors_within zero a b p h = factors_at_zero a b (omega (arith, ints))
factors_within (suc n) a b p h =
    by_zero b (factors_at_zero a b)
    (λ z.
    let bp : pos 0 <ℤ b = omega (arith, ints) in
    let rb = residue_below a b bp in
    factors_step (floor_of a b) (floor_and_residue a b bp) (factors_within n b (residue_of a b) (residue_not_negative a b) (omega (arith, ints))))

factors_of : (a b : ℤ) → HasFactors a b
factors_of a b =
    let h = factors_within (unsigned_abs b) a (pos (unsigned_abs b)) (omega (arith, ints)) (omega (arith, ints)) in
    let s = sign_abs b in
    let i = h.is_gcd in
    let g : IsGcd a b h.gcd = record { not_negative = i.not_negative; left = i.left; right = divides_trans i.right (abs_sign b); greatest = λ d x y. i.greatest d x (divides_trans y s) } in
    let e : pos (unsigned_abs b) *ℤ h.factors.second ≡ b *ℤ (s.quotient *ℤ h.factors.second) = ap (λ z. z *ℤ h.factors.second) s.exact ∙ mul_assoc b s.quotient h.factors.second in
    let f = h.factors.sum in
    let c : Combines a b h.gcd = record { first = h.factors.first; second = s.quotient *ℤ h.factors.second; sum = omega (arith, ints) } in
    record { gcd = h.gcd; is_gcd = g; factors = c }

-- two numbers combine to their greatest common divisor
pub bezout : {a b g : ℤ} → IsGcd a b g → Combines a b g
bezout {a} {b} p = let h = factors_of a b in subst (λ (z : ℤ). Combines a b z) (gcd_unique h.is_gcd p) h.factors
