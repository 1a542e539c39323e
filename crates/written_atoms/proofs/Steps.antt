-- What the steps of the fraction rule give, from the numbers that the program forms.
use Rattle.std.proofs.Common.{◌≡◌, ◌⊎◌, inl, inr, ℕ, suc, [], ◌∷◌, Some, None, ap, sym, ◌∙◌, subst, refl, arith}
use Rattle.std.proofs.Math.IntN.{ℤ, pos, negsuc, ◌+ℤ◌, ◌*ℤ◌}
use Rattle.std.specs.Prelude.{◌<ℤ◌, int_div, Result, Ok, Err}
use Rattle.std.proofs.Math.Nat.{div-le_self}
use Rattle.std.proofs.lemmas.Int.{ints}
use Rattle.exact_numbers.specs.Limit.{InLimit, PastLimit}
use Rattle.exact_numbers.specs.Divides.{Divides, lcm_of, gcd_of, content_of}
use Rattle.exact_numbers.specs.Division.{DividesAll}
use Rattle.exact_numbers.specs.Frac.{Frac}
use Rattle.exact_numbers.proofs.Ring.{mul_zero, zero_mul}
use Rattle.exact_numbers.proofs.Order.{by_order, factor_positive}
use Rattle.exact_numbers.proofs.Contents.{content_is}
use Rattle.exact_numbers.proofs.LeastMultiple.{exact_div, lcm_is}
use Rattle.logic_meaning.specs.Form.{Form, coefficient, coefficients, scale, combine}
use Rattle.logic_meaning.specs.Sorted.{IsSorted, gathered}
use Rattle.logic_meaning.specs.Combining.{CombinePasses}
use Rattle.formula_laws.proofs.Coefficients.{coefficient_scale, coefficient_combine}
use Rattle.formula_laws.proofs.Sorted.{scale_sorted}
use Rattle.formula_laws.proofs.Gathered.{gathered_is, gathered_sorted, coefficient_gathered, constant_gathered}
use Rattle.linear_forms.specs.Combinations.{IsCombination}
use Rattle.logic_meaning.specs.Reduction.{quotient}
use Rattle.linear_forms.proofs.Quotients.{quotient_one, one_quotient}
use Rattle.language_meaning.specs.FractionRule.{◌>>=◌}
use Rattle.language_meaning.specs.RationalForms.{RationalForm, Missing, Overflow, numbers_of, formed_number, formed_form, lowest_form, sum_of_forms, multiple_of_form}
use Rattle.resolved_formulas.proofs.FormSteps.{content_not_zero}
use Rattle.written_atoms.specs.Rational.{there}
use Rattle.written_atoms.proofs.Formed.{then_ok, then_err, number_within, number_past, IsFormWithin, form_within, form_cases, constant_past, coefficient_past, coefficient_within, by_coefficients}

-- ---- sums

constant_scale : (a : ℤ) (f : Form) → (scale a f).constant ≡ a *ℤ f.constant
unfolding scale
constant_scale a f = refl

constant_combine : (a : ℤ) (f : Form) (b : ℤ) (g : Form) → (combine a f b g).constant ≡ a *ℤ f.constant +ℤ b *ℤ g.constant
unfolding combine
constant_combine a f b g = refl

once : (x y u v : ℤ) → x ≡ u → y ≡ v → pos 1 *ℤ x +ℤ pos 1 *ℤ y ≡ u +ℤ v
once x y u v e f = omega (arith, ints)

-- a form that is formed of two sorted forms
module _ (a : ℤ) (f : Form) (b : ℤ) (g : Form) where
  both : Form
  both = combine (pos 1) (scale a f) (pos 1) (scale b g)

  both_coefficient : (x : ℕ) → coefficient x both ≡ a *ℤ coefficient x f +ℤ b *ℤ coefficient x g
  unfolding both
  both_coefficient x = coefficient_combine x (pos 1) (scale a f) (pos 1) (scale b g) ∙ once _ _ _ _ (coefficient_scale x a f) (coefficient_scale x b g)

  both_constant : both.constant ≡ a *ℤ f.constant +ℤ b *ℤ g.constant
  unfolding both
  both_constant = constant_combine (pos 1) (scale a f) (pos 1) (scale b g) ∙ once _ _ _ _ (constant_scale a f) (constant_scale b g)

scaled_within : (a : ℤ) (f : Form) → ¬ (a ≡ pos 0) → IsSorted f → ((x : ℕ) → InLimit (a *ℤ coefficient x f)) → InLimit (a *ℤ f.constant) → formed_form (scale a f) ≡ Ok (scale a f)
scaled_within a f n s h k =
    form_within (scale a f) (by_coefficients (scale a f) (scale_sorted a f n s).rising (λ x. subst (λ (z : ℤ). InLimit z) (sym (coefficient_scale x a f)) (h x)) (subst (λ (z : ℤ). InLimit z) (sym (constant_scale a f)) k))

-- the steps of a sum, by what they are scaled with
module _ (m a : ℤ) (f : Form) (b : ℤ) (g : Form) where
  last_step : Form → Result RationalForm Missing
  last_step sum = Ok (lowest_form sum m)

  third_step : Form → Form → Result RationalForm Missing
  third_step u v = formed_form (gathered (combine (pos 1) u (pos 1) v)) >>= last_step

  second_step : Form → Result RationalForm Missing
  second_step u = formed_form (scale b g) >>= third_step u

  first_step : Result RationalForm Missing
  first_step = formed_form (scale a f) >>= second_step

  module _ (na : ¬ (a ≡ pos 0)) (nb : ¬ (b ≡ pos 0)) (sf : IsSorted f) (sg : IsSorted g) where
    steps_give : (r : Form) → IsCombination a f b g r → first_step ≡ Ok (lowest_form r m)
    unfolding first_step second_step third_step last_step both
    steps_give r c =
        let w = c.within in
        then_ok _ _ second_step (scaled_within a f na sf (λ x. (w.places x).first) w.constants.first)
        ∙ then_ok _ _ (third_step (scale a f)) (scaled_within b g nb sg (λ x. (w.places x).second) w.constants.second)
        ∙ ap (λ s. formed_form s >>= last_step) (gathered_is (both a f b g) r c.linear.sorted (λ x. c.coefficients_add x ∙ sym (both_coefficient a f b g x)) (c.constants_add ∙ sym (both_constant a f b g)))
        ∙ then_ok _ _ last_step (form_within r (record { terms = c.linear.within; constant = c.linear.constant_within }))

    sum_past : CombinePasses a f b g → IsFormWithin (scale a f) → IsFormWithin (scale b g) → formed_form (gathered (both a f b g)) ≡ Err Overflow
    sum_past c wf wg = elim c.cause [
      | inl at ↦
          let x = at.0 in
          elim at.1.cause [
            | inl h ↦ (let w = subst (λ (z : ℤ). InLimit z) (coefficient_scale x a f) (coefficient_within x (scale a f) (scale_sorted a f na sf).rising wf) in absurd (omega arith))
            | inr k ↦ elim k [
              | inl h ↦ (let w = subst (λ (z : ℤ). InLimit z) (coefficient_scale x b g) (coefficient_within x (scale b g) (scale_sorted b g nb sg).rising wg) in absurd (omega arith))
              | inr h ↦ coefficient_past x (gathered (both a f b g)) (gathered_sorted (both a f b g)).rising (subst (λ (z : ℤ). PastLimit z) (sym (coefficient_gathered x (both a f b g) ∙ both_coefficient a f b g x)) h)
            ]
          ]
      | inr at ↦
          elim at.cause [
            | inl h ↦ (let w = subst (λ (z : ℤ). InLimit z) (constant_scale a f) wf.constant in absurd (omega arith))
            | inr k ↦ elim k [
              | inl h ↦ (let w = subst (λ (z : ℤ). InLimit z) (constant_scale b g) wg.constant in absurd (omega arith))
              | inr h ↦ constant_past (gathered (both a f b g)) (subst (λ (z : ℤ). PastLimit z) (sym (constant_gathered (both a f b g) ∙ both_constant a f b g)) h)
            ]
          ]
    ]

    steps_stop : CombinePasses a f b g → first_step ≡ Err Overflow
    unfolding first_step second_step third_step both
    steps_stop c = elim (form_cases (scale a f)) [
      | inr e ↦ then_err _ _ second_step e
      | inl p ↦ then_ok _ _ second_step p.1 ∙ elim (form_cases (scale b g)) [
        | inr e ↦ then_err _ _ (third_step (scale a f)) e
        | inl q ↦ then_ok _ _ (third_step (scale a f)) q.1 ∙ then_err _ _ last_step (sum_past c p.0 q.0)
      ]
    ]

-- both forms are sorted over positive denominators
pub record AreSummed (p q : RationalForm) : Type 0 where
  pub first_sorted : IsSorted p.form
  pub second_sorted : IsSorted q.form
  pub first_positive : pos 0 <ℤ p.denominator
  pub second_positive : pos 0 <ℤ q.denominator

-- the least common multiple over a denominator is not 0
factor_nonzero : (d m : ℤ) → pos 0 <ℤ d → pos 0 <ℤ m → Divides d m → ¬ (int_div m d ≡ pos 0)
factor_nonzero d m hd hm h e =
    let f : d *ℤ int_div m d ≡ m = exact_div d m (λ (z : d ≡ pos 0). omega (arith, ints)) h in
    let g : m ≡ pos 0 = sym f ∙ ap (λ k. d *ℤ k) e ∙ mul_zero d in
    omega (arith, ints)

module _ (p q : RationalForm) (m : ℤ) (e : m ≡ lcm_of p.denominator q.denominator) (s : AreSummed p q) where
  a : ℤ
  a = int_div m p.denominator

  b : ℤ
  b = int_div m q.denominator

  first_factor : ¬ (a ≡ pos 0)
  unfolding a
  first_factor = let l = lcm_is s.first_positive s.second_positive in factor_nonzero p.denominator m s.first_positive (subst (λ k. pos 0 <ℤ k) (sym e) l.positive) (subst (Divides p.denominator) (sym e) l.left)

  second_factor : ¬ (b ≡ pos 0)
  unfolding b
  second_factor = let l = lcm_is s.first_positive s.second_positive in factor_nonzero q.denominator m s.second_positive (subst (λ k. pos 0 <ℤ k) (sym e) l.positive) (subst (Divides q.denominator) (sym e) l.right)

  sum_starts : InLimit m → sum_of_forms p q ≡ first_step m a p.form b q.form
  unfolding sum_of_forms first_step second_step third_step last_step a b
  sum_starts h = then_ok (formed_number (lcm_of p.denominator q.denominator)) m (λ n. first_step n (int_div n p.denominator) p.form (int_div n q.denominator) q.form) (ap formed_number (sym e) ∙ number_within m h)

  pub sum_gives : InLimit m → (r : Form) → IsCombination (int_div m p.denominator) p.form (int_div m q.denominator) q.form r → there (sum_of_forms p q) ≡ Some (lowest_form r m)
  unfolding a b
  sum_gives h r c = ap there (sum_starts h ∙ steps_give m a p.form b q.form first_factor second_factor s.first_sorted s.second_sorted r c)

  pub sum_stops : InLimit m → CombinePasses (int_div m p.denominator) p.form (int_div m q.denominator) q.form → there (sum_of_forms p q) ≡ None
  unfolding a b
  sum_stops h c = ap there (sum_starts h ∙ steps_stop m a p.form b q.form first_factor second_factor s.first_sorted s.second_sorted c)

pub multiple_stops : (p q : RationalForm) → PastLimit (lcm_of p.denominator q.denominator) → there (sum_of_forms p q) ≡ None
unfolding sum_of_forms
multiple_stops p q h = ap there (then_err _ _ _ (number_past (lcm_of p.denominator q.denominator) h))

-- ---- products by numbers

abbrev nothing : Form
nothing = record { terms = []; constant = pos 0 }

module _ (p : RationalForm) (k : Frac) where
  below_step : Form → Result RationalForm Missing
  below_step f = formed_number (p.denominator *ℤ k.denominator) >>= λ d. Ok (lowest_form f d)

  start : multiple_of_form p k ≡ (formed_form (gathered (scale k.numerator p.form)) >>= below_step)
  unfolding multiple_of_form below_step
  start = refl

  pub product_gives : InLimit (p.denominator *ℤ k.denominator) → (r : Form) → IsCombination k.numerator p.form (pos 0) nothing r → there (multiple_of_form p k) ≡ Some (lowest_form r (p.denominator *ℤ k.denominator))
  unfolding below_step
  product_gives h r c =
      ap there (start ∙ ap (λ s. formed_form s >>= below_step) (gathered_is (scale k.numerator p.form) r c.linear.sorted (λ x. c.coefficients_add x ∙ alone (k.numerator *ℤ coefficient x p.form) (coefficient x (scale k.numerator p.form)) (coefficient x nothing) (coefficient_scale x k.numerator p.form)) (c.constants_add ∙ alone (k.numerator *ℤ p.form.constant) (scale k.numerator p.form).constant (pos 0) (constant_scale k.numerator p.form)))
      ∙ then_ok _ _ below_step (form_within r (record { terms = c.linear.within; constant = c.linear.constant_within }))
      ∙ then_ok _ _ (λ d. Ok (lowest_form r d)) (number_within _ h))
    where
      alone : (u v w : ℤ) → v ≡ u → u +ℤ pos 0 *ℤ w ≡ v
      alone u v w e = let z = zero_mul w in omega (arith, ints)

  pub denominator_stops : PastLimit (p.denominator *ℤ k.denominator) → there (multiple_of_form p k) ≡ None
  unfolding below_step
  denominator_stops h = ap there start ∙ elim (form_cases (gathered (scale k.numerator p.form))) [
    | inr e ↦ ap there (then_err _ _ below_step e)
    | inl q ↦ ap there (then_ok _ _ below_step q.1 ∙ then_err _ _ _ (number_past _ h))
  ]

  pub product_stops : CombinePasses k.numerator p.form (pos 0) nothing → there (multiple_of_form p k) ≡ None
  product_stops c = ap there (start ∙ then_err _ _ below_step past)
    where
      without_rest : (u w : ℤ) → PastLimit u ⊎ (PastLimit (pos 0 *ℤ w) ⊎ PastLimit (u +ℤ pos 0 *ℤ w)) → PastLimit u
      without_rest u w h = let z = zero_mul w in elim h [ inl a ↦ a | inr k ↦ elim k [ inl a ↦ absurd (omega (arith, ints)) | inr a ↦ omega (arith, ints) ] ]

      past : formed_form (gathered (scale k.numerator p.form)) ≡ Err Overflow
      past = elim c.cause [
        | inl at ↦ coefficient_past at.0 (gathered (scale k.numerator p.form)) (gathered_sorted _).rising (subst (λ (z : ℤ). PastLimit z) (sym (coefficient_gathered at.0 (scale k.numerator p.form) ∙ coefficient_scale at.0 k.numerator p.form)) (without_rest (k.numerator *ℤ coefficient at.0 p.form) (coefficient at.0 nothing) at.1.cause))
        | inr at ↦ constant_past (gathered (scale k.numerator p.form)) (subst (λ (z : ℤ). PastLimit z) (sym (constant_gathered (scale k.numerator p.form) ∙ constant_scale k.numerator p.form)) (without_rest (k.numerator *ℤ p.form.constant) (pos 0) at.cause))
      ]

-- ---- lowest terms

abbrev record_of : Form → ℤ → RationalForm
record_of f d = record { form = f; denominator = d }

-- g is the greatest common divisor of d and the numbers of f
pub record IsCommonDivisor (d : ℤ) (f : Form) (g : ℤ) : Type 0 where
  pub value : g ≡ content_of (d ∷ numbers_of f)
  pub positive : pos 0 <ℤ g
  pub denominator : Divides g d
  pub numbers : DividesAll g (numbers_of f)

pub common_divisor : (d : ℤ) (f : Form) (k n g r : ℤ) → pos 0 <ℤ d → k ≡ f.constant → n ≡ content_of (coefficients f.terms) → g ≡ gcd_of k n → r ≡ gcd_of d g → IsCommonDivisor d f r
unfolding content_of
common_divisor d f k n g r h ek en eg er =
    let e : r ≡ content_of (d ∷ numbers_of f) = er ∙ ap (gcd_of d) (eg ∙ (λ i. gcd_of (ek i) (en i))) in
    let c = content_is (d ∷ numbers_of f) in
    let z = content_not_zero d f h in
    let p : pos 0 <ℤ content_of (d ∷ numbers_of f) = let m = c.not_negative in by_order (pos 0) (content_of (d ∷ numbers_of f)) (λ l. l) (λ i. absurd (z (sym i))) (λ l. absurd (omega (arith, ints))) in
    record {
      value = e;
      positive = subst (λ x. pos 0 <ℤ x) (sym e) p;
      denominator = subst (λ x. Divides x d) (sym e) c.divides.0;
      numbers = subst (λ x. DividesAll x (numbers_of f)) (sym e) c.divides.1;
    }

pub lowest_already : (d : ℤ) (f : Form) (g : ℤ) → g ≡ content_of (d ∷ numbers_of f) → g ≡ pos 1 → record_of f d ≡ lowest_form f d
unfolding lowest_form
lowest_already d f g e one =
    let h : content_of (d ∷ numbers_of f) ≡ pos 1 = sym e ∙ one in
    let q : f ≡ quotient f (content_of (d ∷ numbers_of f)) = sym (ap (quotient f) h ∙ quotient_one f) in
    let k : d ≡ int_div d (content_of (d ∷ numbers_of f)) = sym (ap (int_div d) h ∙ one_quotient d) in
    λ i. record { form = q i; denominator = k i }

pub lowest_divided : (d : ℤ) (f r : Form) (g k : ℤ) → g ≡ content_of (d ∷ numbers_of f) → r ≡ quotient f g → k ≡ int_div d g → record_of r k ≡ lowest_form f d
unfolding lowest_form
lowest_divided d f r g k e p q =
    let a : r ≡ quotient f (content_of (d ∷ numbers_of f)) = p ∙ ap (quotient f) e in
    let b : k ≡ int_div d (content_of (d ∷ numbers_of f)) = q ∙ ap (int_div d) e in
    λ i. record { form = a i; denominator = b i }

pub denominator_positive : (d g : ℤ) → pos 0 <ℤ d → pos 0 <ℤ g → Divides g d → pos 0 <ℤ int_div d g
denominator_positive d g hd hg h =
    let e = exact_div g d (λ (z : g ≡ pos 0). omega (arith, ints)) h in
    let p : pos 0 <ℤ (g *ℤ int_div d g) = omega (arith, ints) in
    factor_positive hg p

pub quotient_within : (n d : ℤ) → InLimit n → InLimit (int_div n d)
quotient_within (pos n) (pos d) h = let l = div-le_self n d in omega (arith, ints, l)
quotient_within (pos n) (negsuc d) h = let l = div-le_self n (suc d) in omega (arith, ints, l)
quotient_within (negsuc n) (pos d) h = let l = div-le_self (suc n) d in omega (arith, ints, l)
quotient_within (negsuc n) (negsuc d) h = let l = div-le_self (suc n) (suc d) in omega (arith, ints, l)
