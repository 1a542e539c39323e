-- Factors by which two numbers add up to 0, and sums of forms in which a name cancels.
use Rattle.std.proofs.Common.{◌≡◌, ℕ, Bool, true, false, ap, ap₂, sym, ◌∙◌, refl, arith}
use Rattle.std.proofs.Math.IntN.{ℤ, pos, negsuc, neg_ℤ, ◌+ℤ◌, ◌*ℤ◌}
use Rattle.std.specs.Prelude.{◌-ℤ◌, ◌<ℤ◌, ◌≤ℤ◌, int_div, int_lt}
use Rattle.std.specs.Int.{w128, cast_signed, cast_unsigned}
use Rattle.std.proofs.lemmas.Int.{ints}
use Rattle.exact_numbers.specs.Limit.{InLimit}
use Rattle.exact_numbers.specs.Divides.{gcd_of}
use Rattle.exact_numbers.proofs.Casts.{read_back}
use Rattle.exact_numbers.proofs.Limits.{limit_neg}
use Rattle.exact_numbers.proofs.Ring.{mul_comm, mul_assoc, mul_zero, neg_mul, mul_neg}
use Rattle.exact_numbers.proofs.Order.{by_less, cancel_positive}
use Rattle.exact_numbers.proofs.GreatestDivisor.{gcd_is, gcd_positive}
use Rattle.exact_numbers.proofs.LeastMultiple.{exact_div}
use Rattle.logic_meaning.specs.Form.{Form, coefficient, value}
use Rattle.logic_meaning.specs.Point.{Point}
use Rattle.formula_laws.proofs.Coefficients.{coefficient_scale}
use Rattle.elimination_theory.proofs.FieldsLine.{negated_value}
use Rattle.linear_forms.specs.Combinations.{IsCombination}
use Rattle.field_shadows.specs.Signed.{signed_by, turned_by, IsCancelled}

-- ---- bits

-- a number with the other sign, as the code finds it
pub neg_bits : (z : ℤ) → InLimit z → cast_signed w128 (cast_unsigned w128 (pos 0 -ℤ cast_signed w128 (cast_unsigned w128 z))) ≡ neg_ℤ z
neg_bits z h =
    let e : pos 0 -ℤ cast_signed w128 (cast_unsigned w128 z) ≡ neg_ℤ z = (let d = read_back z h in omega (arith, ints)) in
    ap (λ v. cast_signed w128 (cast_unsigned w128 v)) e ∙ read_back (neg_ℤ z) (limit_neg z h)

pub not_positive : (z : ℤ) → int_lt (pos 0) z ≡ false → ¬ (z ≡ pos 0) → pos 0 <ℤ neg_ℤ z
not_positive z e n =
    by_less (pos 0) z (λ (h : pos 0 <ℤ z). absurd (grind (arith, ints)))
    (λ (h : z ≤ℤ pos 0). by_less z (pos 0) (λ (l : z <ℤ pos 0). omega (arith, ints)) (λ (l : pos 0 ≤ℤ z). let d : z ≡ pos 0 = omega (arith, ints) in absurd (n d)))

-- ---- quotients by the greatest common divisor

module _ (a b : ℤ) (n : ¬ (b ≡ pos 0)) where
  abbrev divisor : ℤ
  divisor = gcd_of a b

  positive : pos 0 <ℤ divisor
  positive = gcd_positive (gcd_is a b) n

  pub quotients_equal : int_div b divisor *ℤ a ≡ int_div a divisor *ℤ b
  quotients_equal =
      let g = positive in
      let z : ¬ (divisor ≡ pos 0) = λ e. absurd (omega (arith, ints)) in
      let ea = exact_div divisor a z (gcd_is a b).left in
      let eb = exact_div divisor b z (gcd_is a b).right in
      cancel_positive divisor g
      (sym (mul_assoc divisor (int_div b divisor) a) ∙ ap (λ z. z *ℤ a) eb ∙ mul_comm b a ∙ ap (λ z. z *ℤ b) (sym ea) ∙ mul_assoc divisor (int_div a divisor) b)

  pub quotient_nonzero : ¬ (int_div b divisor ≡ pos 0)
  quotient_nonzero e =
      let g = positive in
      let z : ¬ (divisor ≡ pos 0) = λ e. absurd (omega (arith, ints)) in
      let eb = exact_div divisor b z (gcd_is a b).right in
      n (sym eb ∙ ap (λ z. divisor *ℤ z) e ∙ mul_zero divisor)

pub cancel_one : (t y a b : ℤ) → t *ℤ a ≡ y *ℤ b → t *ℤ a +ℤ neg_ℤ y *ℤ b ≡ pos 0
cancel_one t y a b e = let i = neg_mul y b in omega (arith, ints)

pub cancel_other : (t y a b : ℤ) → t *ℤ a ≡ y *ℤ b → neg_ℤ t *ℤ a +ℤ y *ℤ b ≡ pos 0
cancel_other t y a b e = let i = neg_mul t a in omega (arith, ints)

-- ---- sums

turned_times : (s : Bool) (t z w : ℤ) → w ≡ signed_by s z → signed_by s t *ℤ z ≡ t *ℤ w
turned_times false t z w e = ap (λ v. t *ℤ v) (sym e)
turned_times true t z w e = neg_mul t z ∙ sym (mul_neg t z) ∙ ap (λ v. t *ℤ v) (sym e)

pub coefficient_turned : (s : Bool) (f : Form) (y : ℕ) → coefficient y (turned_by s f) ≡ signed_by s (coefficient y f)
coefficient_turned false f y = refl
coefficient_turned true f y = let e = coefficient_scale y (negsuc 0) f in omega (arith, ints)

value_turned : (s : Bool) (f : Form) (p : Point ℕ) → value (turned_by s f) p ≡ signed_by s (value f p)
value_turned false f p = refl
value_turned true f p = negated_value f p

-- a sum with these factors, in which the name cancels
pub is_cancelled : (x : ℕ) (s : Bool) (f : Form) (r : Bool) (g h : Form) (t b : ℤ) → pos 0 <ℤ t → t *ℤ coefficient x (turned_by s f) +ℤ b *ℤ coefficient x (turned_by r g) ≡ pos 0
    → IsCombination (signed_by s t) f (signed_by r b) g h → IsCancelled x (turned_by s f) (turned_by r g) h
is_cancelled x s f r g h t b pt e c =
    let coefficients : (y : ℕ) → coefficient y h ≡ t *ℤ coefficient y (turned_by s f) +ℤ b *ℤ coefficient y (turned_by r g) =
    λ y. c.coefficients_add y ∙ ap₂ (λ v w. v +ℤ w) (turned_times s t (coefficient y f) (coefficient y (turned_by s f)) (coefficient_turned s f y)) (turned_times r b (coefficient y g) (coefficient y (turned_by r g)) (coefficient_turned r g y)) in
    record {
      times = t;
      by = b;
      positive = pt;
      coefficients = coefficients;
      values = λ p. c.values_add p ∙ ap₂ (λ v w. v +ℤ w) (turned_times s t (value f p) (value (turned_by s f) p) (value_turned s f p)) (turned_times r b (value g p) (value (turned_by r g) p) (value_turned r g p));
      gone = coefficients x ∙ e;
      linear = c.linear;
    }

-- ---- bounds

pub turned_named : (s : Bool) (f : Form) (y : ℕ) → ¬ (coefficient y f ≡ pos 0) → ¬ (coefficient y (turned_by s f) ≡ pos 0)
turned_named false f y n = n
turned_named true f y n = λ e. let d = coefficient_scale y (negsuc 0) f in let z : coefficient y f ≡ pos 0 = omega (arith, ints) in n z

pub below_of : (k z : ℤ) → k ≡ z → int_lt (pos 0) k ≡ false → ¬ (z ≡ pos 0) → z <ℤ pos 0
below_of k z e f n =
    let h = not_positive k f (λ d. n (sym e ∙ d)) in
    omega (arith, ints)
