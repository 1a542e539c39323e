-- A form has no names but those of its term.
use Rattle.std.proofs.Common.{◌≡◌, ◌<◌, ◌⊎◌, inl, inr, ℕ, zero, suc, List, ◌∷◌, Bool, true, false, Option, Some, None, ap, sym, ◌∙◌, subst, refl, arith, nat_eq, eqb-true, if◌then◌else◌}
use Rattle.std.proofs.Math.IntN.{ℤ, pos, negsuc, ◌+ℤ◌, ◌*ℤ◌}
use Rattle.std.specs.Prelude.{◌<ℤ◌, unsigned_abs, int_div, Result, Ok, Err}
use Rattle.exact_numbers.specs.Divides.{lcm_of, content_of}
use Rattle.exact_numbers.specs.Frac.{Frac, whole_frac, inverted, power_steps}
use Rattle.exact_numbers.proofs.Ring.{mul_zero}
use Rattle.exact_numbers.proofs.Order.{cancel, mul_positive}
use Rattle.exact_numbers.proofs.Contents.{content_is}
use Rattle.exact_numbers.proofs.LeastMultiple.{lcm_is}
use Rattle.logic_meaning.specs.Context.{Context, Fields, Integers}
use Rattle.logic_meaning.specs.Point.{Point}
use Rattle.logic_meaning.specs.Form.{Form, coefficient, scale, combine}
use Rattle.logic_meaning.specs.Sorted.{gathered}
use Rattle.formula_laws.proofs.Coefficients.{coefficient_combine, coefficient_scale}
use Rattle.formula_laws.proofs.Gathered.{coefficient_gathered}
use Rattle.logic_meaning.specs.Reduction.{quotient}
use Rattle.linear_forms.proofs.Quotients.{multiple_quotients}
use Rattle.language_meaning.specs.declared.tree.Literal.{Literal}
use Rattle.language_meaning.specs.declared.tree.Literal.TheVariants.{Fits, Past}
use Rattle.language_meaning.specs.Trees.{TermTree}
use Rattle.language_meaning.specs.Value.{NamedPoint, HasName, value}
use Rattle.language_meaning.specs.FractionRule.{◌>>=◌}
use Rattle.language_meaning.specs.RationalForms.{RationalForm, Missing, Overflow, Nonlinear, Division, numbers_of, formed_number, formed_form, lowest_form, is_constant, constant_form, constant_of, sum_of_forms, multiple_of_form, product_of_forms, quotient_of_forms, small_power, as_constant, power_of_form, opposite_form, variable_form, literal_form, forms, formed, formed_difference}
use Rattle.resolved_formulas.specs.ResolvedLaws.{Numbered}
use Rattle.resolved_formulas.proofs.RuleLaw.{bind_ok, ok_same, KeepMeaning, rule_stands}
use Rattle.written_syntax.proofs.ValueLaw.{inverted_proper}
use Rattle.resolved_formulas.proofs.FormSteps.{Stands, number_ok, form_ok, content_not_zero, zero_int_eq}
use Rattle.resolved_formulas.proofs.FormValues.{forms_keep}
use Rattle.std.specs.Ordering.{int_eq}

-- the point at which each name is 0
abbrev pub origin : NamedPoint
origin = record { at = λ x. pos 0; below = 1 }

abbrev pub numbered_origin : Point ℕ
numbered_origin = record { at = λ x. pos 0; below = 1 }

module _ (n : ℕ) where
  -- the name has the coefficient 0
  abbrev pub Lacks : RationalForm → Type 0
  Lacks v = coefficient n v.form ≡ pos 0

  lowest_lacks : (f : Form) (d : ℤ) → pos 0 <ℤ d → coefficient n f ≡ pos 0 → Lacks (lowest_form f d)
  unfolding lowest_form quotient coefficient
  lowest_lacks f d h e =
      let g = content_of (d ∷ numbers_of f) in
      let z = content_not_zero d f h in
      cancel g z (multiple_quotients g z n f.terms (content_is (d ∷ numbers_of f)).divides.1.1 ∙ e ∙ sym (mul_zero g))

  scaled_lacks : (k : ℤ) (f : Form) → coefficient n f ≡ pos 0 → coefficient n (scale k f) ≡ pos 0
  scaled_lacks k f e = coefficient_scale n k f ∙ ap (λ z. k *ℤ z) e ∙ mul_zero k

  sum_lacks : (a b r : RationalForm) → pos 0 <ℤ a.denominator → pos 0 <ℤ b.denominator → Lacks a → Lacks b → sum_of_forms a b ≡ Ok r → Lacks r
  unfolding sum_of_forms
  sum_lacks a b r ha hb s t e =
      let d = a.denominator in let k = b.denominator in
      let e0 = bind_ok (formed_number (lcm_of d k)) _ r e in
      let m = e0.0 in
      let e1 = bind_ok (formed_form (scale (int_div m d) a.form)) _ r e0.2 in
      let e2 = bind_ok (formed_form (scale (int_div m k) b.form)) _ r e1.2 in
      let e3 = bind_ok (formed_form (gathered (combine (pos 1) e1.0 (pos 1) e2.0))) _ r e2.2 in
      let r_is : lowest_form e3.0 m ≡ r = ok_same _ _ e3.2 in
      let first : coefficient n e1.0 ≡ pos 0 = subst (λ f. coefficient n f ≡ pos 0) (form_ok _ e1.0 e1.1) (scaled_lacks (int_div m d) a.form s) in
      let second : coefficient n e2.0 ≡ pos 0 = subst (λ f. coefficient n f ≡ pos 0) (form_ok _ e2.0 e2.1) (scaled_lacks (int_div m k) b.form t) in
      let both : coefficient n (gathered (combine (pos 1) e1.0 (pos 1) e2.0)) ≡ pos 0 =
      coefficient_gathered n (combine (pos 1) e1.0 (pos 1) e2.0) ∙ coefficient_combine n (pos 1) e1.0 (pos 1) e2.0 ∙ ap (λ z. pos 1 *ℤ z +ℤ pos 1 *ℤ coefficient n e2.0) first ∙ ap (λ z. pos 1 *ℤ pos 0 +ℤ pos 1 *ℤ z) second in
      let positive = subst (λ z. pos 0 <ℤ z) (number_ok (lcm_of d k) m e0.1) (lcm_is ha hb).positive in
      subst Lacks r_is (lowest_lacks e3.0 m positive (subst (λ f. coefficient n f ≡ pos 0) (form_ok _ e3.0 e3.1) both))

  -- the product by a constant has a denominator that is not negative only where it is positive
  multiple_lacks : (a r : RationalForm) (k : Frac) → pos 0 <ℤ (a.denominator *ℤ k.denominator) → Lacks a → multiple_of_form a k ≡ Ok r → Lacks r
  unfolding multiple_of_form
  multiple_lacks a r k h s e =
      let e0 = bind_ok (formed_form (gathered (scale k.numerator a.form))) _ r e in
      let e1 = bind_ok (formed_number (a.denominator *ℤ k.denominator)) _ r e0.2 in
      let r_is : lowest_form e0.0 e1.0 ≡ r = ok_same _ _ e1.2 in
      let lacks : coefficient n (gathered (scale k.numerator a.form)) ≡ pos 0 = coefficient_gathered n (scale k.numerator a.form) ∙ scaled_lacks k.numerator a.form s in
      subst Lacks r_is (lowest_lacks e0.0 e1.0 (subst (λ z. pos 0 <ℤ z) (number_ok (a.denominator *ℤ k.denominator) e1.0 e1.1) h) (subst (λ f. coefficient n f ≡ pos 0) (form_ok _ e0.0 e0.1) lacks))

  product_lacks : (a b r : RationalForm) → pos 0 <ℤ a.denominator → pos 0 <ℤ b.denominator → Lacks a → Lacks b → product_of_forms a b ≡ Ok r → Lacks r
  unfolding product_of_forms
  product_lacks a b r ha hb s t e = go (is_constant b) (is_constant a) e
    where
      go : (x y : Bool) → (if x then multiple_of_form a (constant_of b) else if y then multiple_of_form b (constant_of a) else Err Nonlinear) ≡ Ok r → Lacks r
      go true y e = multiple_lacks a r (constant_of b) (mul_positive ha hb) s e
      go false true e = multiple_lacks b r (constant_of a) (mul_positive hb ha) t e
      go false false e = absurd (cc)

  over_lacks : (c : Context) (a b r : RationalForm) → pos 0 <ℤ a.denominator → pos 0 <ℤ b.denominator → Lacks a → quotient_of_forms c a b ≡ Ok r → Lacks r
  unfolding quotient_of_forms
  over_lacks Integers a b r ha hb s e = absurd (cc)
  over_lacks Fields a b r ha hb s e = go (is_constant b) (int_eq b.form.constant (pos 0)) refl e
    where
      go : (x y : Bool) → int_eq b.form.constant (pos 0) ≡ y → (if x then (if y then Err Division else multiple_of_form a (inverted (constant_of b))) else Err Division) ≡ Ok r → Lacks r
      go true true j e = absurd (cc)
      go true false j e = multiple_lacks a r (inverted (constant_of b)) (mul_positive ha (inverted_proper (constant_of b) hb (zero_int_eq b.form.constant j))) s e
      go false y j e = absurd (cc)

  constant_lacks : (u : Frac) → Lacks (constant_form u)
  unfolding coefficient
  constant_lacks u = refl

  as_constant_lacks : (o : Option Frac) (r : RationalForm) → as_constant o ≡ Ok r → Lacks r
  as_constant_lacks None r e = absurd (cc)
  as_constant_lacks (Some u) r e = subst Lacks (ok_same _ _ e) (constant_lacks u)

  small_power_lacks : (a r : RationalForm) (k : ℕ) → Lacks a → small_power a k ≡ Ok r → Lacks r
  small_power_lacks a r zero s e = subst Lacks (ok_same _ _ e) (constant_lacks (whole_frac (pos 1)))
  small_power_lacks a r (suc zero) s e = subst Lacks (ok_same _ _ e) s
  small_power_lacks a r (suc (suc k)) s e = absurd (cc)

  power_lacks : (a r : RationalForm) (k : Literal) → Lacks a → power_of_form a k ≡ Ok r → Lacks r
  unfolding power_of_form
  power_lacks a r (Fits k) s e = go (is_constant a) e
    where
      go : (b : Bool) → (if b then as_constant (power_steps (constant_of a) (unsigned_abs k)) else small_power a (unsigned_abs k)) ≡ Ok r → Lacks r
      go true e = as_constant_lacks (power_steps (constant_of a) (unsigned_abs k)) r e
      go false e = small_power_lacks a r (unsigned_abs k) s e
  power_lacks a r Past s e = go (is_constant a) e
    where
      go : (b : Bool) → (let x : Result RationalForm Missing = if b then Err Overflow else Err Nonlinear in x) ≡ Ok r → Lacks r
      go true e = absurd (cc)
      go false e = absurd (cc)

  literal_lacks : (k : Literal) (v : RationalForm) → literal_form k ≡ Ok v → Lacks v
  literal_lacks (Fits k) v e = subst Lacks (ok_same _ _ e) (constant_lacks (whole_frac k))
  literal_lacks Past v e = absurd (cc)

  variable_lacks : (x : ℕ) → ¬ (x ≡ n) → Lacks (variable_form x)
  unfolding coefficient
  variable_lacks x h = go (nat_eq n x) refl
    where
      go : (b : Bool) → nat_eq n x ≡ b → (if b then pos 1 +ℤ pos 0 else pos 0) ≡ pos 0
      go true e = absurd (h (sym (eqb-true n x e)))
      go false e = refl

  module _ (c : Context) (number : List ℕ → ℕ) where
    -- the name has another number
    abbrev Other : List ℕ → Type 0
    Other x = ¬ (number x ≡ n)

    at_origin : Numbered number Other origin numbered_origin
    at_origin = record { same_below = refl; same_at = λ x k. refl }

    below_origin : 0 < origin.below
    below_origin = omega arith

    -- beside the coefficient 0, what keeps denominators positive
    abbrev Apart : RationalForm → Frac → Type 0
    Apart v w = Stands numbered_origin v w × Lacks v

    apart_keeps : KeepMeaning (forms c number) Other origin Apart
    apart_keeps =
        let k = forms_keep c number Other origin numbered_origin below_origin at_origin in record {
          proper = λ v w s. k.proper v w s.0;
          same = λ v w u s m e. (k.same v w u s.0 m e, s.1);
          number = λ l v e. (k.number l v e, literal_lacks l v e);
          name = λ x v o e. (k.name x v o e, subst Lacks (ok_same _ _ e) (variable_lacks (number x) o));
          empty_sum = (k.empty_sum, constant_lacks (whole_frac (pos 0)));
          empty_product = (k.empty_product, constant_lacks (whole_frac (pos 1)));
          plus = λ a b r v w s t e. (k.plus a b r v w s.0 t.0 e, sum_lacks a b r s.0.positive t.0.positive s.1 t.1 e);
          times = λ a b r v w s t e. (k.times a b r v w s.0 t.0 e, product_lacks a b r s.0.positive t.0.positive s.1 t.1 e);
          over = λ a b r v w s t e. (k.over a b r v w s.0 t.0 e, over_lacks c a b r s.0.positive t.0.positive s.1 e);
          power = λ a r v l s e. (k.power a r v l s.0 e, power_lacks a r l s.1 e);
          minus = λ a r v s e. (k.minus a r v s.0 e, subst Lacks (ok_same _ _ e) (scaled_lacks (negsuc 0) a.form s.1));
        }

    -- where no name of the term has the number, the form lacks it
    pub form_apart : (t : TermTree) (v : RationalForm) → ((x : List ℕ) → HasName t x → ¬ (number x ≡ n)) → formed c number t ≡ Ok v → Apart v (value t origin)
    form_apart t v h e = rule_stands (forms c number) Other origin below_origin Apart apart_keeps t v h e

    pub difference_lacks : (s t : TermTree) (d : RationalForm) → ((x : List ℕ) → HasName s x ⊎ HasName t x → ¬ (number x ≡ n)) → formed_difference c number s t ≡ Ok d → Lacks d
    difference_lacks s t d h e =
        let a = bind_ok (formed c number s) (λ v. formed c number t >>= λ w. sum_of_forms v (opposite_form w)) d e in
        let b = bind_ok (formed c number t) (λ w. sum_of_forms a.0 (opposite_form w)) d a.2 in
        let first = form_apart s a.0 (λ x m. h x (inl m)) a.1 in
        let second = form_apart t b.0 (λ x m. h x (inr m)) b.1 in
        sum_lacks a.0 (opposite_form b.0) d first.0.positive second.0.positive first.1 (scaled_lacks (negsuc 0) b.0.form second.1) b.2
