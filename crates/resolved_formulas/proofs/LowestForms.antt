-- A form that is there is in lowest terms.
use Rattle.std.proofs.Common.{◌≡◌, ◌<◌, ℕ, zero, suc, List, [], ◌∷◌, Bool, true, false, Option, Some, None, ap, sym, ◌∙◌, subst, refl, arith, if◌then◌else◌}
use Rattle.std.proofs.Math.IntN.{ℤ, pos, negsuc, neg_ℤ, ◌*ℤ◌}
use Rattle.std.specs.Prelude.{◌<ℤ◌, unsigned_abs, int_div, Result, Ok, Err}
use Rattle.std.specs.Ordering.{int_eq}
use Rattle.std.proofs.lemmas.Int.{ints}
use Rattle.exact_numbers.specs.Divides.{Divides, lcm_of, content_of}
use Rattle.exact_numbers.specs.Division.{DividesAll}
use Rattle.exact_numbers.specs.Frac.{Frac, IsLowest, whole_frac, inverted, power_steps}
use Rattle.exact_numbers.proofs.Order.{mul_positive}
use Rattle.exact_numbers.proofs.Contents.{content_is}
use Rattle.exact_numbers.proofs.LeastMultiple.{lcm_is}
use Rattle.exact_numbers.proofs.Divisibility.{divides_same, divides_both, divides_along, divides_neg, one_divides}
use Rattle.exact_numbers.proofs.FractionRule.{whole_lowest}
use Rattle.exact_numbers.proofs.Powers.{power_outcome}
use Rattle.logic_meaning.specs.Context.{Context, Fields, Integers}
use Rattle.logic_meaning.specs.Form.{Form, Term, coefficients, scaled, scale, combine}
use Rattle.logic_meaning.specs.Sorted.{gathered}
use Rattle.logic_meaning.specs.Reduction.{quotient}
use Rattle.linear_forms.proofs.Quotients.{coefficients_quotients, content_divided}
use Rattle.language_meaning.specs.declared.tree.Literal.{Literal}
use Rattle.language_meaning.specs.declared.tree.Literal.TheVariants.{Fits, Past}
use Rattle.language_meaning.specs.RationalForms.{RationalForm, Missing, Overflow, Nonlinear, Division, numbers_of, formed_number, formed_form, lowest_form, is_constant, constant_form, constant_of, sum_of_forms, multiple_of_form, product_of_forms, quotient_of_forms, small_power, as_constant, power_of_form, opposite_form, variable_form, literal_form, forms}
use Rattle.resolved_formulas.specs.LowestForms.{IsLowestForm}
use Rattle.resolved_formulas.specs.ResolvedLaws.{Numbered, FormIsLowest}
use Rattle.resolved_formulas.proofs.RuleLaw.{bind_ok, ok_same, KeepMeaning, rule_stands}
use Rattle.written_syntax.proofs.ValueLaw.{inverted_proper}
use Rattle.resolved_formulas.proofs.FormSteps.{Stands, number_ok, content_not_zero, zero_int_eq}
use Rattle.resolved_formulas.proofs.FormValues.{forms_keep}
use Rattle.resolved_formulas.proofs.FormNames.{origin, numbered_origin}

pub lowest_lowest : (f : Form) (d : ℤ) → pos 0 <ℤ d → IsLowestForm (lowest_form f d)
unfolding lowest_form quotient
lowest_lowest f d h =
    let xs = d ∷ numbers_of f in
    let g = content_of xs in
    let z = content_not_zero d f h in
    ap (λ ys. content_of (int_div d g ∷ int_div f.constant g ∷ ys)) (coefficients_quotients g f.terms) ∙ content_divided g z xs (content_is xs).divides (divides_same g)

-- a divisor of 1 that is not negative
content_one : (xs : List ℤ) → Divides (content_of xs) (pos 1) → content_of xs ≡ pos 1
content_one xs h = divides_both (content_is xs).not_negative (omega (arith, ints)) h (one_divides (content_of xs))

pub constant_lowest : (u : Frac) → IsLowest u → IsLowestForm (constant_form u)
constant_lowest u l =
    let xs = u.denominator ∷ u.numerator ∷ [] in
    let c = content_is xs in
    content_one xs (l.greatest (content_of xs) c.divides.1.0 c.divides.0)

pub sum_lowest : (a b r : RationalForm) → pos 0 <ℤ a.denominator → pos 0 <ℤ b.denominator → sum_of_forms a b ≡ Ok r → IsLowestForm r
unfolding sum_of_forms
sum_lowest a b r ha hb e =
    let d = a.denominator in let k = b.denominator in
    let e0 = bind_ok (formed_number (lcm_of d k)) _ r e in
    let m = e0.0 in
    let e1 = bind_ok (formed_form (scale (int_div m d) a.form)) _ r e0.2 in
    let e2 = bind_ok (formed_form (scale (int_div m k) b.form)) _ r e1.2 in
    let e3 = bind_ok (formed_form (gathered (combine (pos 1) e1.0 (pos 1) e2.0))) _ r e2.2 in
    let r_is : lowest_form e3.0 m ≡ r = ok_same _ _ e3.2 in
    subst IsLowestForm r_is (lowest_lowest e3.0 m (subst (λ z. pos 0 <ℤ z) (number_ok (lcm_of d k) m e0.1) (lcm_is ha hb).positive))

multiple_lowest : (a r : RationalForm) (k : Frac) → pos 0 <ℤ (a.denominator *ℤ k.denominator) → multiple_of_form a k ≡ Ok r → IsLowestForm r
unfolding multiple_of_form
multiple_lowest a r k h e =
    let e0 = bind_ok (formed_form (gathered (scale k.numerator a.form))) _ r e in
    let e1 = bind_ok (formed_number (a.denominator *ℤ k.denominator)) _ r e0.2 in
    let r_is : lowest_form e0.0 e1.0 ≡ r = ok_same _ _ e1.2 in
    subst IsLowestForm r_is (lowest_lowest e0.0 e1.0 (subst (λ z. pos 0 <ℤ z) (number_ok (a.denominator *ℤ k.denominator) e1.0 e1.1) h))

product_lowest : (a b r : RationalForm) → pos 0 <ℤ a.denominator → pos 0 <ℤ b.denominator → product_of_forms a b ≡ Ok r → IsLowestForm r
unfolding product_of_forms
product_lowest a b r ha hb e = go (is_constant b) (is_constant a) e
  where
    go : (x y : Bool) → (if x then multiple_of_form a (constant_of b) else if y then multiple_of_form b (constant_of a) else Err Nonlinear) ≡ Ok r → IsLowestForm r
    go true y e = multiple_lowest a r (constant_of b) (mul_positive ha hb) e
    go false true e = multiple_lowest b r (constant_of a) (mul_positive hb ha) e
    go false false e = absurd (cc)

over_lowest : (c : Context) (a b r : RationalForm) → pos 0 <ℤ a.denominator → pos 0 <ℤ b.denominator → quotient_of_forms c a b ≡ Ok r → IsLowestForm r
unfolding quotient_of_forms
over_lowest Integers a b r ha hb e = absurd (cc)
over_lowest Fields a b r ha hb e = go (is_constant b) (int_eq b.form.constant (pos 0)) refl e
  where
    go : (x y : Bool) → int_eq b.form.constant (pos 0) ≡ y → (if x then (if y then Err Division else multiple_of_form a (inverted (constant_of b))) else Err Division) ≡ Ok r → IsLowestForm r
    go true true j e = absurd (cc)
    go true false j e = multiple_lowest a r (inverted (constant_of b)) (mul_positive ha (inverted_proper (constant_of b) hb (zero_int_eq b.form.constant j))) e
    go false y j e = absurd (cc)

small_power_lowest : (a r : RationalForm) (k : ℕ) → IsLowestForm a → small_power a k ≡ Ok r → IsLowestForm r
small_power_lowest a r zero s e = subst IsLowestForm (ok_same _ _ e) (constant_lowest (whole_frac (pos 1)) (whole_lowest (pos 1)))
small_power_lowest a r (suc zero) s e = subst IsLowestForm (ok_same _ _ e) s
small_power_lowest a r (suc (suc k)) s e = absurd (cc)

constant_power_lowest : (a r : RationalForm) (k : ℕ) (o : Option Frac) → pos 0 <ℤ a.denominator → power_steps (constant_of a) k ≡ o → as_constant o ≡ Ok r → IsLowestForm r
constant_power_lowest a r k None h i e = absurd (cc)
constant_power_lowest a r k (Some u) h i e =
    let x = power_outcome (constant_of a) k (Some u) h (sym i) in
    subst IsLowestForm (ok_same _ _ e) (constant_lowest u x.lowest_terms)

power_lowest : (a r : RationalForm) (k : Literal) → pos 0 <ℤ a.denominator → IsLowestForm a → power_of_form a k ≡ Ok r → IsLowestForm r
unfolding power_of_form
power_lowest a r (Fits k) h s e = go (is_constant a) e
  where
    go : (b : Bool) → (if b then as_constant (power_steps (constant_of a) (unsigned_abs k)) else small_power a (unsigned_abs k)) ≡ Ok r → IsLowestForm r
    go true e = constant_power_lowest a r (unsigned_abs k) (power_steps (constant_of a) (unsigned_abs k)) h refl e
    go false e = small_power_lowest a r (unsigned_abs k) s e
power_lowest a r Past h s e = go (is_constant a) e
  where
    go : (b : Bool) → (let x : Result RationalForm Missing = if b then Err Overflow else Err Nonlinear in x) ≡ Ok r → IsLowestForm r
    go true e = absurd (cc)
    go false e = absurd (cc)

literal_lowest : (k : Literal) (v : RationalForm) → literal_form k ≡ Ok v → IsLowestForm v
literal_lowest (Fits k) v e = subst IsLowestForm (ok_same _ _ e) (constant_lowest (whole_frac k) (whole_lowest k))
literal_lowest Past v e = absurd (cc)

variable_lowest : (x : ℕ) → IsLowestForm (variable_form x)
variable_lowest x = let xs = pos 1 ∷ pos 0 ∷ pos 1 ∷ [] in content_one xs (content_is xs).divides.0

minus_divides : (g a : ℤ) → Divides g (negsuc 0 *ℤ a) → Divides g a
minus_divides g a h = divides_along (twice a) (divides_neg (divides_along (minus a) h))
  where
    minus : (a : ℤ) → negsuc 0 *ℤ a ≡ neg_ℤ a
    minus a = omega (arith, ints)

    twice : (a : ℤ) → neg_ℤ (neg_ℤ a) ≡ a
    twice a = omega (arith, ints)

minus_divides_all : (g : ℤ) (ts : List Term) → DividesAll g (coefficients (scaled (negsuc 0) ts)) → DividesAll g (coefficients ts)
minus_divides_all g [] h = tt
minus_divides_all g (t ∷ ts) h = (minus_divides g t.times h.0, minus_divides_all g ts h.1)

opposite_lowest : (a : RationalForm) → IsLowestForm a → IsLowestForm (opposite_form a)
unfolding scale
opposite_lowest a s =
    let ys = a.denominator ∷ numbers_of a.form in
    let xs = a.denominator ∷ (negsuc 0 *ℤ a.form.constant) ∷ coefficients (scaled (negsuc 0) a.form.terms) in
    let c = (content_is xs).divides in
    let all : DividesAll (content_of xs) ys = (c.0, (minus_divides (content_of xs) a.form.constant c.1.0, minus_divides_all (content_of xs) a.form.terms c.1.1)) in
    content_one xs (subst (Divides (content_of xs)) s ((content_is ys).greatest (content_of xs) all))

-- beside the lowest terms, what keeps denominators positive
abbrev Lowest : RationalForm → Frac → Type 0
Lowest v w = Stands numbered_origin v w × IsLowestForm v

any_name : List ℕ → Type 0
any_name x = Unit {0}

module _ (c : Context) (number : List ℕ → ℕ) where
  at_origin : Numbered number any_name origin numbered_origin
  at_origin = record { same_below = refl; same_at = λ x k. refl }

  below_origin : 0 < origin.below
  below_origin = omega arith

  lowest_keeps : KeepMeaning (forms c number) any_name origin Lowest
  lowest_keeps =
      let k = forms_keep c number any_name origin numbered_origin below_origin at_origin in record {
        proper = λ v w s. k.proper v w s.0;
        same = λ v w u s m e. (k.same v w u s.0 m e, s.1);
        number = λ l v e. (k.number l v e, literal_lowest l v e);
        name = λ x v o e. (k.name x v o e, subst IsLowestForm (ok_same _ _ e) (variable_lowest (number x)));
        empty_sum = (k.empty_sum, constant_lowest (whole_frac (pos 0)) (whole_lowest (pos 0)));
        empty_product = (k.empty_product, constant_lowest (whole_frac (pos 1)) (whole_lowest (pos 1)));
        plus = λ a b r v w s t e. (k.plus a b r v w s.0 t.0 e, sum_lowest a b r s.0.positive t.0.positive e);
        times = λ a b r v w s t e. (k.times a b r v w s.0 t.0 e, product_lowest a b r s.0.positive t.0.positive e);
        over = λ a b r v w s t e. (k.over a b r v w s.0 t.0 e, over_lowest c a b r s.0.positive t.0.positive e);
        power = λ a r v l s e. (k.power a r v l s.0 e, power_lowest a r l s.0.positive s.1 e);
        minus = λ a r v s e. (k.minus a r v s.0 e, subst IsLowestForm (ok_same _ _ e) (opposite_lowest a s.1));
      }

pub form_is_lowest : FormIsLowest
unfolding any_name
form_is_lowest c number t v e = (rule_stands (forms c number) any_name origin (below_origin c number) Lowest (lowest_keeps c number) t v (λ x m. tt) e).1
