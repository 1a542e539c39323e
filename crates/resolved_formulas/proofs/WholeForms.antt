-- Over the integers no form has a denominator.
use Rattle.std.proofs.Common.{◌≡◌, ◌<◌, ℕ, zero, suc, List, ◌∷◌, Bool, true, false, Option, Some, None, ap, sym, ◌∙◌, subst, refl, arith, if◌then◌else◌}
use Rattle.std.proofs.Math.IntN.{ℤ, pos, ◌*ℤ◌}
use Rattle.std.specs.Prelude.{◌<ℤ◌, unsigned_abs, int_div, Result, Ok, Err}
use Rattle.std.proofs.lemmas.Int.{ints}
use Rattle.exact_numbers.specs.Divides.{Divides, lcm_of, gcd_of, euclid, content_of}
use Rattle.exact_numbers.specs.Frac.{Frac, IsProper, SameValue, whole_frac, true_power, power_steps}
use Rattle.exact_numbers.proofs.Order.{mul_positive}
use Rattle.exact_numbers.proofs.Contents.{content_is}
use Rattle.exact_numbers.proofs.Divisibility.{divides_both, one_divides}
use Rattle.exact_numbers.proofs.Powers.{power_outcome}
use Rattle.logic_meaning.specs.Context.{Integers}
use Rattle.logic_meaning.specs.Form.{Form, scale, combine}
use Rattle.logic_meaning.specs.Sorted.{gathered}
use Rattle.language_meaning.specs.declared.tree.Literal.{Literal}
use Rattle.language_meaning.specs.declared.tree.Literal.TheVariants.{Fits, Past}
use Rattle.language_meaning.specs.Trees.{TermTree, Named}
use Rattle.language_meaning.specs.Value.{NamedPoint, literal_number}
use Rattle.written_syntax.proofs.ValueLaw.{value_proper}
use Rattle.written_syntax.proofs.CongruenceLaw.{whole_in_lowest}
use Rattle.language_meaning.specs.FractionRule.{◌>>=◌}
use Rattle.language_meaning.specs.RationalForms.{RationalForm, Missing, Overflow, Nonlinear, numbers_of, formed_number, formed_form, lowest_form, is_constant, constant_of, sum_of_forms, multiple_of_form, product_of_forms, quotient_of_forms, small_power, as_constant, power_of_form, opposite_form, literal_form, forms, formed, formed_difference}
use Rattle.resolved_formulas.proofs.RuleLaw.{bind_ok, ok_same, KeepMeaning, rule_stands}
use Rattle.resolved_formulas.proofs.FormSteps.{number_ok, power_proper}

-- the denominator is 1
abbrev pub IsWholeForm : RationalForm → Type 0
IsWholeForm v = v.denominator ≡ pos 1

lowest_whole : (f : Form) (d : ℤ) → d ≡ pos 1 → IsWholeForm (lowest_form f d)
unfolding lowest_form
lowest_whole f d e =
    let c = content_is (d ∷ numbers_of f) in
    let one : Divides (content_of (d ∷ numbers_of f)) (pos 1) = subst (Divides (content_of (d ∷ numbers_of f))) e c.divides.0 in
    let g : content_of (d ∷ numbers_of f) ≡ pos 1 = divides_both c.not_negative (omega (arith, ints)) one (one_divides (content_of (d ∷ numbers_of f))) in
    ap (λ z. int_div z (content_of (d ∷ numbers_of f))) e ∙ ap (int_div (pos 1)) g

one_multiple : lcm_of (pos 1) (pos 1) ≡ pos 1
unfolding lcm_of gcd_of euclid
one_multiple = refl

sum_whole : (a b r : RationalForm) → IsWholeForm a → IsWholeForm b → sum_of_forms a b ≡ Ok r → IsWholeForm r
unfolding sum_of_forms
sum_whole a b r s t e =
    let d = a.denominator in let k = b.denominator in
    let e0 = bind_ok (formed_number (lcm_of d k)) _ r e in
    let m = e0.0 in
    let e1 = bind_ok (formed_form (scale (int_div m d) a.form)) _ r e0.2 in
    let e2 = bind_ok (formed_form (scale (int_div m k) b.form)) _ r e1.2 in
    let e3 = bind_ok (formed_form (gathered (combine (pos 1) e1.0 (pos 1) e2.0))) _ r e2.2 in
    let r_is : lowest_form e3.0 m ≡ r = ok_same _ _ e3.2 in
    let one : m ≡ pos 1 = sym (number_ok (lcm_of d k) m e0.1) ∙ ap (λ x. lcm_of x k) s ∙ ap (lcm_of (pos 1)) t ∙ one_multiple in
    subst IsWholeForm r_is (lowest_whole e3.0 m one)

multiple_whole : (a r : RationalForm) (k : Frac) → IsWholeForm a → k.denominator ≡ pos 1 → multiple_of_form a k ≡ Ok r → IsWholeForm r
unfolding multiple_of_form
multiple_whole a r k s t e =
    let e0 = bind_ok (formed_form (gathered (scale k.numerator a.form))) _ r e in
    let e1 = bind_ok (formed_number (a.denominator *ℤ k.denominator)) _ r e0.2 in
    let r_is : lowest_form e0.0 e1.0 ≡ r = ok_same _ _ e1.2 in
    let one : e1.0 ≡ pos 1 = sym (number_ok (a.denominator *ℤ k.denominator) e1.0 e1.1) ∙ ap (λ x. x *ℤ k.denominator) s ∙ ap (λ x. pos 1 *ℤ x) t in
    subst IsWholeForm r_is (lowest_whole e0.0 e1.0 one)

product_whole : (a b r : RationalForm) → IsWholeForm a → IsWholeForm b → product_of_forms a b ≡ Ok r → IsWholeForm r
unfolding product_of_forms
product_whole a b r s t e = go (is_constant b) (is_constant a) e
  where
    go : (x y : Bool) → (if x then multiple_of_form a (constant_of b) else if y then multiple_of_form b (constant_of a) else Err Nonlinear) ≡ Ok r → IsWholeForm r
    go true y e = multiple_whole a r (constant_of b) s t e
    go false true e = multiple_whole b r (constant_of a) t s e
    go false false e = absurd (cc)

nothing_over : (a b r : RationalForm) → quotient_of_forms Integers a b ≡ Ok r → ⊥
unfolding quotient_of_forms
nothing_over a b r e = cc

true_power_whole : (k : Frac) (n : ℕ) → k.denominator ≡ pos 1 → (true_power k n).denominator ≡ pos 1
unfolding true_power
true_power_whole k zero e = refl
true_power_whole k (suc n) e = ap (λ x. x *ℤ k.denominator) (true_power_whole k n e) ∙ ap (λ x. pos 1 *ℤ x) e

power_steps_whole : (k u : Frac) (n : ℕ) → k.denominator ≡ pos 1 → power_steps k n ≡ Some u → u.denominator ≡ pos 1
power_steps_whole k u n e i =
    let x = power_outcome k n (Some u) (subst (λ z. pos 0 <ℤ z) (sym e) (omega (arith, ints))) (sym i) in
    let t = true_power k n in
    let whole : t ≡ whole_frac t.numerator = let o = true_power_whole k n e in λ j. record { numerator = t.numerator; denominator = o j } in
    (whole_in_lowest u t.numerator x.proper x.lowest_terms (subst (SameValue u) whole x.value)).denominator

small_power_whole : (a r : RationalForm) (n : ℕ) → IsWholeForm a → small_power a n ≡ Ok r → IsWholeForm r
small_power_whole a r zero s e = subst IsWholeForm (ok_same _ _ e) refl
small_power_whole a r (suc zero) s e = subst IsWholeForm (ok_same _ _ e) s
small_power_whole a r (suc (suc n)) s e = absurd (cc)

constant_power_whole : (a r : RationalForm) (n : ℕ) (o : Option Frac) → IsWholeForm a → power_steps (constant_of a) n ≡ o → as_constant o ≡ Ok r → IsWholeForm r
constant_power_whole a r n None s i e = absurd (cc)
constant_power_whole a r n (Some u) s i e = subst IsWholeForm (ok_same _ _ e) (power_steps_whole (constant_of a) u n s i)

power_whole : (a r : RationalForm) (n : Literal) → IsWholeForm a → power_of_form a n ≡ Ok r → IsWholeForm r
unfolding power_of_form
power_whole a r (Fits n) s e = go (is_constant a) e
  where
    go : (b : Bool) → (if b then as_constant (power_steps (constant_of a) (unsigned_abs n)) else small_power a (unsigned_abs n)) ≡ Ok r → IsWholeForm r
    go true e = constant_power_whole a r (unsigned_abs n) _ s refl e
    go false e = small_power_whole a r (unsigned_abs n) s e
power_whole a r Past s e = go (is_constant a) e
  where
    go : (b : Bool) → (let x : Result RationalForm Missing = if b then Err Overflow else Err Nonlinear in x) ≡ Ok r → IsWholeForm r
    go true e = absurd (cc)
    go false e = absurd (cc)

literal_whole : (n : Literal) (v : RationalForm) → literal_form n ≡ Ok v → IsWholeForm v
literal_whole (Fits n) v e = subst IsWholeForm (ok_same _ _ e) refl
literal_whole Past v e = absurd (cc)

-- beside the denominator 1, that the fraction is proper
abbrev Whole : RationalForm → Frac → Type 0
Whole v w = IsProper w × IsWholeForm v

one_positive : pos 0 <ℤ pos 1
one_positive = omega (arith, ints)

whole_keeps : (number : List ℕ → ℕ) (p : NamedPoint) → 0 < p.below → KeepMeaning (forms Integers number) (λ x. Unit {0}) p Whole
whole_keeps number p h = record {
  proper = λ v w s. s.0;
  same = λ v w u s m e. (m, s.1);
  number = λ n v e. (one_positive, literal_whole n v e);
  name = λ x v k e. (value_proper (Named x) p h, subst IsWholeForm (ok_same _ _ e) refl);
  empty_sum = (one_positive, refl);
  empty_product = (one_positive, refl);
  plus = λ a b r v w s t e. (mul_positive s.0 t.0, sum_whole a b r s.1 t.1 e);
  times = λ a b r v w s t e. (mul_positive s.0 t.0, product_whole a b r s.1 t.1 e);
  over = λ a b r v w s t e. absurd (nothing_over a b r e);
  power = λ a r v n s e. (power_proper v (unsigned_abs (literal_number n)) s.0, power_whole a r n s.1 e);
  minus = λ a r v s e. (s.0, subst IsWholeForm (ok_same _ _ e) s.1);
}

pub form_whole : (number : List ℕ → ℕ) (t : TermTree) (v : RationalForm) → formed Integers number t ≡ Ok v → IsWholeForm v
form_whole number t v e =
    let p : NamedPoint = record { at = λ x. pos 0; below = 1 } in
    (rule_stands (forms Integers number) (λ x. Unit {0}) p (omega arith) Whole (whole_keeps number p (omega arith)) t v (λ x m. tt) e).1

pub difference_whole : (number : List ℕ → ℕ) (s t : TermTree) (d : RationalForm) → formed_difference Integers number s t ≡ Ok d → IsWholeForm d
difference_whole number s t d e =
    let a = bind_ok (formed Integers number s) (λ v. formed Integers number t >>= λ w. sum_of_forms v (opposite_form w)) d e in
    let b = bind_ok (formed Integers number t) (λ w. sum_of_forms a.0 (opposite_form w)) d a.2 in
    sum_whole a.0 (opposite_form b.0) d (form_whole number s a.0 a.1) (form_whole number t b.0 b.1) b.2
