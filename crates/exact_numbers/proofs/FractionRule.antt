-- What the fraction rule gives: the true value in lowest terms, refused exactly where a number formed passes the limit.
use Rattle.std.proofs.Common.{◌≡◌, ◌<◌, inl, inr, ap, sym, ◌∙◌, subst, refl, arith, Option, Some, None, MatchOption}
use Rattle.std.proofs.Math.IntN.{ℤ, pos, neg_ℤ, ◌+ℤ◌, ◌*ℤ◌}
use Rattle.std.specs.Prelude.{◌<ℤ◌, ◌≤ℤ◌, unsigned_abs, int_div, int_lt, true, false}
use Rattle.std.proofs.Math.Nat.{le-mul_of_pos_right}
use Rattle.std.proofs.lemmas.Int.{ints, unsigned_abs-mul}
use Rattle.exact_numbers.specs.Limit.{InLimit, checked}
use Rattle.exact_numbers.specs.Divides.{IsGcd, gcd_of}
use Rattle.exact_numbers.specs.Frac.{whole_frac, inverted, Frac, IsProper, SameValue, IsLowest, true_sum, true_product, lowest, multiple, scaled, sum_step, product_step}
use Rattle.exact_numbers.specs.ExactSteps.{SumPasses, IsExactSum, ProductPasses, IsExactProduct}
use Rattle.exact_numbers.proofs.Ring.{ring, mul_assoc, mul_left_comm, mul_one}
use Rattle.exact_numbers.proofs.Order.{by_less, cancel_positive, factor_positive, mul_positive}
use Rattle.exact_numbers.proofs.Divisibility.{divides_neg, divides_along, one_divides, mul_divides_mul, cancel_divides}
use Rattle.exact_numbers.proofs.GreatestDivisor.{gcd_is, gcd_swap, gcd_positive}
use Rattle.exact_numbers.proofs.LeastMultiple.{exact_div, lcm_is}
use Rattle.exact_numbers.proofs.Limits.{by_limit}

-- ---- lowest terms

pub divisor_positive : (n d : ℤ) → pos 0 <ℤ d → pos 0 <ℤ gcd_of n d
divisor_positive n d h = gcd_positive (gcd_is n d) (λ (z : d ≡ pos 0). omega (arith, ints))

divisor_not_zero : (n d : ℤ) → pos 0 <ℤ d → ¬ (gcd_of n d ≡ pos 0)
divisor_not_zero n d h = let p = divisor_positive n d h in λ (z : gcd_of n d ≡ pos 0). omega (arith, ints)

lowest_above : (n d : ℤ) → pos 0 <ℤ d → gcd_of n d *ℤ (lowest n d).numerator ≡ n
lowest_above n d h = exact_div (gcd_of n d) n (divisor_not_zero n d h) (gcd_is n d).left

lowest_below : (n d : ℤ) → pos 0 <ℤ d → gcd_of n d *ℤ (lowest n d).denominator ≡ d
lowest_below n d h = exact_div (gcd_of n d) d (divisor_not_zero n d h) (gcd_is n d).right

pub lowest_proper : (n d : ℤ) → pos 0 <ℤ d → IsProper (lowest n d)
lowest_proper n d h =
    let e = lowest_below n d h in
    let f : pos 0 <ℤ (gcd_of n d *ℤ (lowest n d).denominator) = omega (arith, ints, e) in
    factor_positive (divisor_positive n d h) f

crossed : (g a b n d : ℤ) → g *ℤ a ≡ n → g *ℤ b ≡ d → a *ℤ d ≡ n *ℤ b
crossed g a b n d e f = ap (λ z. a *ℤ z) (sym f) ∙ mul_left_comm a g b ∙ sym (mul_assoc g a b) ∙ ap (λ z. z *ℤ b) e

pub lowest_value : (n d : ℤ) → pos 0 <ℤ d → SameValue (lowest n d) (record { numerator = n; denominator = d })
lowest_value n d h = crossed (gcd_of n d) (lowest n d).numerator (lowest n d).denominator n d (lowest_above n d h) (lowest_below n d h)

pub lowest_is : (n d : ℤ) → pos 0 <ℤ d → IsLowest (lowest n d)
lowest_is n d h =
    let g = gcd_of n d in let i = gcd_is n d in
    record {
      not_negative = omega (arith, ints);
      left = one_divides (lowest n d).numerator;
      right = one_divides (lowest n d).denominator;
      greatest = λ e x y. cancel_divides g (divisor_not_zero n d h) (divides_along (sym (mul_one g)) (i.greatest (g *ℤ e) (divides_along (lowest_above n d h) (mul_divides_mul g x)) (divides_along (lowest_below n d h) (mul_divides_mul g y))));
    }

-- a factor of a number within the limit is within it
pub factor_within : (g a n : ℤ) → pos 0 <ℤ g → g *ℤ a ≡ n → InLimit n → InLimit a
factor_within g a n p e h =
    let m = unsigned_abs-mul g a in
    let f = ap unsigned_abs e in
    let q : 0 < unsigned_abs g = omega (arith, ints) in
    let l = le-mul_of_pos_right (unsigned_abs a) q in
    omega (arith, m, f, l)

pub lowest_above_within : (n d : ℤ) → pos 0 <ℤ d → InLimit n → InLimit (lowest n d).numerator
lowest_above_within n d h w = factor_within (gcd_of n d) (lowest n d).numerator n (divisor_positive n d h) (lowest_above n d h) w

pub lowest_below_within : (n d : ℤ) → pos 0 <ℤ d → InLimit d → InLimit (lowest n d).denominator
lowest_below_within n d h w = factor_within (gcd_of n d) (lowest n d).denominator d (divisor_positive n d h) (lowest_below n d h) w

-- ---- sums

sum_crossed : (n m a b c d x y : ℤ) → b *ℤ x ≡ m → d *ℤ y ≡ m → n ≡ a *ℤ x +ℤ c *ℤ y → n *ℤ (b *ℤ d) ≡ (a *ℤ d +ℤ c *ℤ b) *ℤ m
sum_crossed n m a b c d x y e f g =
    let p = simp ring at (ap (λ z. z *ℤ (a *ℤ d)) e) in
    let q = simp ring at (ap (λ z. z *ℤ (c *ℤ b)) f) in
    let r = simp ring at (ap (λ z. z *ℤ (b *ℤ d)) g) in
    simp ring (omega (arith, ints, p, q, r))

-- equality by cross multiplication is passed on
pub same_value_trans : (p q r : Frac) → IsProper q → SameValue p q → SameValue q r → SameValue p r
same_value_trans p q r h e f =
    let a = p.numerator in let b = p.denominator in let c = q.numerator in let d = q.denominator in let x = r.numerator in let y = r.denominator in
    cancel_positive d h (chain a b c d x y e f)
  where
    chain : (a b c d x y : ℤ) → a *ℤ d ≡ c *ℤ b → c *ℤ y ≡ x *ℤ d → d *ℤ (a *ℤ y) ≡ d *ℤ (x *ℤ b)
    chain a b c d x y e f =
        let p = simp ring at (ap (λ z. z *ℤ y) e) in
        let q = simp ring at (ap (λ z. z *ℤ b) f) in
        simp ring (omega (arith, ints, p, q))

multiple_positive : (p q : Frac) → IsProper p → IsProper q → pos 0 <ℤ multiple p q
multiple_positive p q hp hq = (lcm_is hp hq).positive

sum_value : (p q : Frac) → IsProper p → IsProper q → SameValue (lowest (scaled p (multiple p q) +ℤ scaled q (multiple p q)) (multiple p q)) (true_sum p q)
sum_value p q hp hq =
    let m = multiple p q in let mp = multiple_positive p q hp hq in
    let l = lcm_is hp hq in
    let np : ¬ (p.denominator ≡ pos 0) = λ (z : p.denominator ≡ pos 0). omega (arith, ints) in
    let nq : ¬ (q.denominator ≡ pos 0) = λ (z : q.denominator ≡ pos 0). omega (arith, ints) in
    let e = exact_div p.denominator m np l.left in
    let f = exact_div q.denominator m nq l.right in
    let n = scaled p m +ℤ scaled q m in
    same_value_trans (lowest n m) (record { numerator = n; denominator = m }) (true_sum p q) mp (lowest_value n m mp) (sum_crossed n m p.numerator p.denominator q.numerator q.denominator (int_div m p.denominator) (int_div m q.denominator) e f refl)

-- the step is refused at the first number formed that passes the limit
pub refused_multiple : (p q : Frac) → checked (multiple p q) ≡ None → sum_step p q ≡ None
unfolding sum_step
refused_multiple p q e = rw e refl

pub refused_first : (p q : Frac) → checked (multiple p q) ≡ Some (multiple p q) → checked (scaled p (multiple p q)) ≡ None → sum_step p q ≡ None
unfolding sum_step
refused_first p q m e = rw m (rw e refl)

pub refused_second : (p q : Frac) → checked (multiple p q) ≡ Some (multiple p q) → checked (scaled p (multiple p q)) ≡ Some (scaled p (multiple p q)) → checked (scaled q (multiple p q)) ≡ None → sum_step p q ≡ None
unfolding sum_step
refused_second p q m a e = rw m (rw a (rw e refl))

pub refused_sum : (p q : Frac) → checked (multiple p q) ≡ Some (multiple p q) → checked (scaled p (multiple p q)) ≡ Some (scaled p (multiple p q)) → checked (scaled q (multiple p q)) ≡ Some (scaled q (multiple p q)) → checked (scaled p (multiple p q) +ℤ scaled q (multiple p q)) ≡ None → sum_step p q ≡ None
unfolding sum_step
refused_sum p q m a b e = rw m (rw a (rw b (rw e refl)))

pub formed_sum : (p q : Frac) → checked (multiple p q) ≡ Some (multiple p q) → checked (scaled p (multiple p q)) ≡ Some (scaled p (multiple p q)) → checked (scaled q (multiple p q)) ≡ Some (scaled q (multiple p q)) → checked (scaled p (multiple p q) +ℤ scaled q (multiple p q)) ≡ Some (scaled p (multiple p q) +ℤ scaled q (multiple p q)) → sum_step p q ≡ Some (lowest (scaled p (multiple p q) +ℤ scaled q (multiple p q)) (multiple p q))
unfolding sum_step
formed_sum p q m a b e = rw m (rw a (rw b (rw e refl)))

-- a step of a sum gives the sum in lowest terms, or a number formed passes the limit
pub sum_step_gives : (p q : Frac) → IsProper p → IsProper q → MatchOption (sum_step p q) (SumPasses p q) (IsExactSum p q)
sum_step_gives p q hp hq =
    let m = multiple p q in let a = scaled p m in let b = scaled q m in
    let P : Option Frac → Type 0 = λ o. MatchOption o (SumPasses p q) (IsExactSum p q) in
    by_limit m
    (λ hm em. by_limit a
    (λ ha ea. by_limit b
    (λ hb eb. by_limit (a +ℤ b)
    (λ hs es. subst P (sym (formed_sum p q em ea eb es)) (record { multiple_within = hm; first_within = ha; second_within = hb; sum_within = hs; value = sum_value p q hp hq; lowest_terms = lowest_is (a +ℤ b) m (multiple_positive p q hp hq); proper = lowest_proper (a +ℤ b) m (multiple_positive p q hp hq) }))
    (λ hs es. subst P (sym (refused_sum p q em ea eb es)) (record { cause = inr (inr (inr hs)) })))
    (λ hb eb. subst P (sym (refused_second p q em ea eb)) (record { cause = inr (inr (inl hb)) })))
    (λ ha ea. subst P (sym (refused_first p q em ea)) (record { cause = inr (inl ha) })))
    (λ hm em. subst P (sym (refused_multiple p q em)) (record { cause = inl hm }))

pub sum_outcome : (p q : Frac) (o : Option Frac) → IsProper p → IsProper q → o ≡ sum_step p q → MatchOption o (SumPasses p q) (IsExactSum p q)
sum_outcome p q o hp hq e = subst (λ (x : Option Frac). MatchOption x (SumPasses p q) (IsExactSum p q)) (sym e) (sum_step_gives p q hp hq)

-- ---- products

pub refused_above : (p q : Frac) → checked (p.numerator *ℤ q.numerator) ≡ None → product_step p q ≡ None
unfolding product_step
refused_above p q e = rw e refl

pub refused_below : (p q : Frac) → checked (p.numerator *ℤ q.numerator) ≡ Some (p.numerator *ℤ q.numerator) → checked (p.denominator *ℤ q.denominator) ≡ None → product_step p q ≡ None
unfolding product_step
refused_below p q a e = rw a (rw e refl)

pub formed_product : (p q : Frac) → checked (p.numerator *ℤ q.numerator) ≡ Some (p.numerator *ℤ q.numerator) → checked (p.denominator *ℤ q.denominator) ≡ Some (p.denominator *ℤ q.denominator) → product_step p q ≡ Some (lowest (p.numerator *ℤ q.numerator) (p.denominator *ℤ q.denominator))
unfolding product_step
formed_product p q a b = rw a (rw b refl)

-- a step of a product gives the product in lowest terms, or a product formed passes the limit
pub product_step_gives : (p q : Frac) → IsProper p → IsProper q → MatchOption (product_step p q) (ProductPasses p q) (IsExactProduct p q)
product_step_gives p q hp hq =
    let n = p.numerator *ℤ q.numerator in let d = p.denominator *ℤ q.denominator in
    let dp = mul_positive hp hq in
    let P : Option Frac → Type 0 = λ o. MatchOption o (ProductPasses p q) (IsExactProduct p q) in
    by_limit n
    (λ hn en. by_limit d
    (λ hd ed. subst P (sym (formed_product p q en ed)) (record { numerator_within = hn; denominator_within = hd; value = lowest_value n d dp; lowest_terms = lowest_is n d dp; proper = lowest_proper n d dp }))
    (λ hd ed. subst P (sym (refused_below p q en ed)) (record { cause = inr hd })))
    (λ hn en. subst P (sym (refused_above p q en)) (record { cause = inl hn }))

pub product_outcome : (p q : Frac) (o : Option Frac) → IsProper p → IsProper q → o ≡ product_step p q → MatchOption o (ProductPasses p q) (IsExactProduct p q)
product_outcome p q o hp hq e = subst (λ (x : Option Frac). MatchOption x (ProductPasses p q) (IsExactProduct p q)) (sym e) (product_step_gives p q hp hq)

-- ---- whole numbers, signs, and fractions upside down

pub whole_lowest : (n : ℤ) → IsLowest (whole_frac n)
whole_lowest n = record { not_negative = omega (arith, ints); left = one_divides n; right = one_divides (pos 1); greatest = λ d x y. y }

pub gcd_neg : (a b g : ℤ) → IsGcd a b g → IsGcd (neg_ℤ a) b g
gcd_neg a b g p =
    let e : neg_ℤ (neg_ℤ a) ≡ a = omega (arith, ints) in
    record { not_negative = p.not_negative; left = divides_neg p.left; right = p.right; greatest = λ d x y. p.greatest d (divides_along e (divides_neg x)) y }

pub inverted_negative : (p : Frac) → p.numerator <ℤ pos 0 → inverted p ≡ record { numerator = neg_ℤ p.denominator; denominator = neg_ℤ p.numerator }
unfolding inverted
inverted_negative p h = let e : int_lt p.numerator (pos 0) ≡ true = grind (arith, ints) in rw e refl

pub inverted_other : (p : Frac) → pos 0 ≤ℤ p.numerator → inverted p ≡ record { numerator = p.denominator; denominator = p.numerator }
unfolding inverted
inverted_other p h = let e : int_lt p.numerator (pos 0) ≡ false = grind (arith, ints) in rw e refl

pub inverted_one : (p : Frac) → SameValue (true_product (inverted p) p) (whole_frac (pos 1))
inverted_one p =
    let n = p.numerator in let d = p.denominator in
    let Q : Frac → Type 0 = λ q. SameValue (true_product q p) (whole_frac (pos 1)) in
    by_less n (pos 0)
    (λ h. subst Q (sym (inverted_negative p h)) (negative n d))
    (λ h. subst Q (sym (inverted_other p h)) (other n d))
  where
    negative : (n d : ℤ) → neg_ℤ d *ℤ n *ℤ pos 1 ≡ pos 1 *ℤ (neg_ℤ n *ℤ d)
    negative n d = simp ring (omega (arith, ints))

    other : (n d : ℤ) → d *ℤ n *ℤ pos 1 ≡ pos 1 *ℤ (n *ℤ d)
    other n d = simp ring (omega (arith, ints))

pub inverted_lowest : (p : Frac) → IsLowest p → IsLowest (inverted p)
inverted_lowest p l =
    let n = p.numerator in let d = p.denominator in
    by_less n (pos 0)
    (λ h. subst IsLowest (sym (inverted_negative p h)) (gcd_neg d (neg_ℤ n) (pos 1) (gcd_swap (gcd_neg n d (pos 1) l))))
    (λ h. subst IsLowest (sym (inverted_other p h)) (gcd_swap l))
