-- Powers of fractions as repeated products.
use Rattle.std.proofs.Common.{◌≡◌, ◌<◌, ◌≤◌, ◌+◌, ◌-◌, ◌*◌, ◌%◌, ◌/◌, ℕ, zero, suc, ap, sym, ◌∙◌, subst, refl, arith, Option, Some, None, MatchOption, add-one}
use Rattle.std.proofs.Math.IntN.{ℤ, pos, negsuc, neg_ℤ, ◌*ℤ◌}
use Rattle.std.specs.Prelude.{◌≤ℤ◌, option_and_then}
use Rattle.std.proofs.lemmas.Int.{ints}
use Rattle.exact_numbers.specs.Limit.{checked}
use Rattle.exact_numbers.specs.Divides.{euclid, gcd_of}
use Rattle.exact_numbers.specs.Frac.{Frac, IsProper, SameValue, whole_frac, true_product, true_power, product_step, power_steps}
use Rattle.exact_numbers.specs.ExactSteps.{IsUnit, ProductPasses, IsExactProduct, PowerPasses, IsExactPower}
use Rattle.exact_numbers.proofs.Ring.{ring}
use Rattle.exact_numbers.proofs.Order.{mul_positive}
use Rattle.exact_numbers.proofs.FractionRule.{whole_lowest, product_step_gives, same_value_trans}

-- one product more
pub power_next : (p q : Frac) (n : ℕ) → power_steps p n ≡ Some q → power_steps p (n + 1) ≡ product_step q p
unfolding power_steps
power_next p q n e = rw add-one (rw e refl)

pub power_none : (p : Frac) (n : ℕ) → power_steps p n ≡ None → power_steps p (suc n) ≡ None
unfolding power_steps
power_none p n e = rw e refl

-- once refused, always refused
pub power_refused : (p : Frac) (n k : ℕ) → power_steps p n ≡ None → power_steps p (k + n) ≡ None
power_refused p n zero e = let z : zero + n ≡ n = omega arith in rw z e
power_refused p n (suc k) e = let z : suc k + n ≡ suc (k + n) = omega arith in rw z (power_none p (k + n) (power_refused p n k e))

pub power_after : (p : Frac) (n m : ℕ) → n ≤ m → power_steps p n ≡ None → power_steps p m ≡ None
power_after p n m h e = let z : (m - n) + n ≡ m = omega arith in subst (λ (k : ℕ). power_steps p k ≡ None) z (power_refused p n (m - n) e)

-- ---- 0, 1 and -1

repeats_at : (z : ℤ) → neg_ℤ (pos 1) ≤ℤ z → z ≤ℤ pos 1 → power_steps (whole_frac z) (suc (suc (suc zero))) ≡ power_steps (whole_frac z) (suc zero)
unfolding power_steps product_step checked euclid gcd_of
repeats_at (pos zero) h k = refl
repeats_at (pos (suc zero)) h k = refl
repeats_at (pos (suc (suc n))) h k = absurd (omega (arith, ints))
repeats_at (negsuc zero) h k = refl
repeats_at (negsuc (suc n)) h k = absurd (omega (arith, ints))

repeats : (z : ℤ) (n : ℕ) → neg_ℤ (pos 1) ≤ℤ z → z ≤ℤ pos 1 → power_steps (whole_frac z) (suc (suc (suc n))) ≡ power_steps (whole_frac z) (suc n)
unfolding power_steps
repeats z zero h k = repeats_at z h k
repeats z (suc n) h k = ap (option_and_then (λ q. product_step q (whole_frac z))) (repeats z n h k)

repeats_pairs : (z : ℤ) (n k : ℕ) → neg_ℤ (pos 1) ≤ℤ z → z ≤ℤ pos 1 → power_steps (whole_frac z) (suc n + 2 * k) ≡ power_steps (whole_frac z) (suc n)
repeats_pairs z n zero h i = let e : suc n + 2 * zero ≡ suc n = omega arith in ap (power_steps (whole_frac z)) e
repeats_pairs z n (suc k) h i =
    let e : suc n + 2 * suc k ≡ suc (suc (suc (n + 2 * k))) = omega arith in
    let f : suc (n + 2 * k) ≡ suc n + 2 * k = omega arith in
    ap (power_steps (whole_frac z)) e ∙ repeats z (n + 2 * k) h i ∙ ap (power_steps (whole_frac z)) f ∙ repeats_pairs z n k h i

-- the powers of 0, 1 and -1 from the first on are one of two
pub unit_power : (p : Frac) (n : ℕ) → IsUnit p → 2 < n → power_steps p (2 - n % 2) ≡ power_steps p n
unit_power p n u h =
    let w : p ≡ whole_frac p.numerator = λ i. record { numerator = p.numerator; denominator = u.whole i } in
    let m = 2 - n % 2 in
    let e : suc (m - 1) ≡ m = omega arith in
    let f : suc (m - 1) + 2 * ((n - m) / 2) ≡ n = omega arith in
    let r = repeats_pairs p.numerator (m - 1) ((n - m) / 2) u.least u.most in
    subst (λ (q : Frac). power_steps q m ≡ power_steps q n) (sym w) (ap (power_steps (whole_frac p.numerator)) (sym e) ∙ sym r ∙ ap (power_steps (whole_frac p.numerator)) f)

-- ---- what the powers are

same_product : (a b c d e f : ℤ) → a *ℤ d ≡ c *ℤ b → (a *ℤ e) *ℤ (d *ℤ f) ≡ (c *ℤ e) *ℤ (b *ℤ f)
same_product a b c d e f h =
    let x = simp ring at (ap (λ z. z *ℤ (e *ℤ f)) h) in
    simp ring (omega (arith, ints, x))

true_power_proper : (p : Frac) (n : ℕ) → IsProper p → IsProper (true_power p n)
unfolding true_power
true_power_proper p zero h = omega (arith, ints)
true_power_proper p (suc n) h = mul_positive (true_power_proper p n h) h

next_value : (p q r : Frac) (n : ℕ) → IsProper p → IsProper q → SameValue q (true_power p n) → SameValue r (true_product q p) → SameValue r (true_power p (suc n))
unfolding true_power
next_value p q r n hp hq e f =
    same_value_trans r (true_product q p) (true_power p (suc n)) (mul_positive hq hp) f (same_product q.numerator q.denominator (true_power p n).numerator (true_power p n).denominator p.numerator p.denominator e)

abbrev Outcome : Frac → ℕ → Option Frac → Type 0
Outcome p n o = MatchOption o (PowerPasses p n) (IsExactPower p n)

passes_later : (p : Frac) (n : ℕ) → PowerPasses p n → PowerPasses p (suc n)
passes_later p n x = let b = x.before in record { steps = x.steps; before = omega arith; power = x.power; formed = x.formed; passes = x.passes }

outcome_zero : (p : Frac) → Outcome p zero (power_steps p zero)
unfolding power_steps true_power
outcome_zero p = record { value = refl; lowest_terms = whole_lowest (pos 1); proper = omega (arith, ints) }

outcome_product : (p q : Frac) (n : ℕ) → IsProper p → power_steps p n ≡ Some q → IsExactPower p n q → (o : Option Frac) → MatchOption o (ProductPasses q p) (IsExactProduct q p) → Outcome p (suc n) o
outcome_product p q n hp e x None y = record { steps = n; before = omega arith; power = q; formed = e; passes = y }
outcome_product p q n hp e x (Some r) y = record { value = next_value p q r n hp x.proper x.value y.value; lowest_terms = y.lowest_terms; proper = y.proper }

outcome_next : (p : Frac) (n : ℕ) (o : Option Frac) → IsProper p → power_steps p n ≡ o → Outcome p n o → Outcome p (suc n) (option_and_then (λ q. product_step q p) o)
outcome_next p n None hp e x = passes_later p n x
outcome_next p n (Some q) hp e x = outcome_product p q n hp e x (product_step q p) (product_step_gives q p x.proper hp)

outcome_at : (p : Frac) (n : ℕ) → IsProper p → Outcome p n (power_steps p n)
unfolding power_steps
outcome_at p zero hp = outcome_zero p
outcome_at p (suc n) hp = outcome_next p n (power_steps p n) hp refl (outcome_at p n hp)

-- a repeated product gives the power in lowest terms, or a product formed passes the limit
pub power_outcome : (p : Frac) (n : ℕ) (o : Option Frac) → IsProper p → o ≡ power_steps p n → Outcome p n o
power_outcome p n o hp e = subst (λ (x : Option Frac). Outcome p n x) (sym e) (outcome_at p n hp)

pub power_zero : (p : Frac) → power_steps p 0 ≡ Some (whole_frac (pos 1))
unfolding power_steps
power_zero p = refl
