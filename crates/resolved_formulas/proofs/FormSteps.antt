-- The steps of the fraction rule at forms keep values.
use Rattle.std.proofs.Common.{◌≡◌, ℕ, zero, suc, List, [], ◌∷◌, Bool, true, false, Option, Some, None, ap, sym, ◌∙◌, subst, refl, arith, if◌then◌else◌}
use Rattle.std.proofs.Math.IntN.{ℤ, pos, negsuc, neg_ℤ, ◌+ℤ◌, ◌*ℤ◌}
use Rattle.std.specs.Prelude.{◌<ℤ◌, unsigned_abs, int_div, Result, Ok, Err}
use Rattle.std.specs.List.{list_all}
use Rattle.std.specs.Ordering.{int_eq, is_eq}
use Rattle.std.proofs.lemmas.Int.{ints}
use Rattle.exact_numbers.specs.Divides.{Divides, lcm_of, content_of}
use Rattle.exact_numbers.specs.Frac.{Frac, IsProper, SameValue, whole_frac, true_sum, true_product, true_power, negated, inverted, power_steps}
use Rattle.exact_numbers.proofs.Ring.{ring, one_mul}
use Rattle.exact_numbers.proofs.Order.{mul_positive, factor_positive, by_order, by_compare}
use Rattle.exact_numbers.proofs.LeastMultiple.{exact_div, lcm_is}
use Rattle.exact_numbers.proofs.Contents.{content_is}
use Rattle.exact_numbers.proofs.Divisibility.{zero_divides}
use Rattle.exact_numbers.proofs.FractionRule.{same_value_trans}
use Rattle.exact_numbers.proofs.Powers.{power_outcome}
use Rattle.logic_meaning.specs.Context.{Context, Fields, Integers}
use Rattle.logic_meaning.specs.Point.{Point}
use Rattle.logic_meaning.specs.Form.{Form, Term, total, scale, combine, value as value_in}
use Rattle.logic_meaning.specs.Sorted.{IsSorted, gathered}
use Rattle.logic_meaning.specs.Limits.{is_within}
use Rattle.logic_meaning.specs.Form as form
use Rattle.formula_laws.proofs.Values.{value_scale, value_combine}
use Rattle.formula_laws.proofs.Sorted.{scale_sorted}
use Rattle.formula_laws.proofs.Gathered.{value_gathered, gathered_sorted}
use Rattle.logic_meaning.specs.Reduction.{quotient}
use Rattle.linear_forms.proofs.Quotients.{value_quotient, sorted_quotient}
use Rattle.language_meaning.specs.declared.tree.Literal.{Literal}
use Rattle.language_meaning.specs.declared.tree.Literal.TheVariants.{Fits, Past}
use Rattle.language_meaning.specs.Value.{literal_number, true_quotient}
use Rattle.written_syntax.proofs.ValueLaw.{int_eq_zero, inverted_proper, same_zero, inverted_same}
use Rattle.language_meaning.specs.RationalForms.{RationalForm, Missing, Overflow, Nonlinear, Division, numbers_of, formed_number, formed_form, lowest_form, is_empty, is_constant, constant_form, constant_of, sum_of_forms, multiple_of_form, product_of_forms, quotient_of_forms, small_power, as_constant, power_of_form, opposite_form}
use Rattle.resolved_formulas.specs.ResolvedLaws.{value_at}
use Rattle.resolved_formulas.proofs.RuleLaw.{bind_ok, ok_same}

-- v is sorted over a positive denominator, and has the value w at the point
pub record Stands (q : Point ℕ) (v : RationalForm) (w : Frac) : Type 0 where
  pub sorted : IsSorted v.form
  pub positive : pos 0 <ℤ v.denominator
  pub meant : IsProper w
  pub same : SameValue (value_at v q) w

-- ---- numbers formed

pub number_ok : (z w : ℤ) → formed_number z ≡ Ok w → z ≡ w
unfolding formed_number
number_ok z w e = go (is_within z) e
  where
    go : (b : Bool) → (let r : Result ℤ Missing = if b then Ok z else Err Overflow in r) ≡ Ok w → z ≡ w
    go true e = cc
    go false e = absurd (cc)

pub form_ok : (f g : Form) → formed_form f ≡ Ok g → f ≡ g
unfolding formed_form
form_ok f g e = go (list_all is_within (numbers_of f)) e
  where
    go : (b : Bool) → (let r : Result Form Missing = if b then Ok f else Err Overflow in r) ≡ Ok g → f ≡ g
    go true e = cc
    go false e = absurd (cc)

-- ---- lowest terms

pub content_not_zero : (d : ℤ) (f : Form) → pos 0 <ℤ d → ¬ (content_of (d ∷ numbers_of f) ≡ pos 0)
content_not_zero d f h z =
    let c = (content_is (d ∷ numbers_of f)).divides.0 in
    let e : d ≡ pos 0 = zero_divides (subst (λ g. Divides g d) z c) in
    absurd (omega (arith, ints))

lowest_crossed : (g a b v d w : ℤ) → g *ℤ a ≡ v → g *ℤ b ≡ d → a *ℤ (d *ℤ w) ≡ v *ℤ (b *ℤ w)
lowest_crossed g a b v d w e f =
    let p = simp ring at (ap (λ z. z *ℤ (b *ℤ w)) e) in
    let q = simp ring at (ap (λ z. z *ℤ (a *ℤ w)) f) in
    simp ring (omega (arith, ints, p, q))

-- a form divided to lowest terms
pub lowest_stands : (q : Point ℕ) (f : Form) (d : ℤ) (w : Frac) → IsSorted f → pos 0 <ℤ d → pos 0 <ℤ pos q.below → IsProper w
    → SameValue (value_at (record { form = f; denominator = d }) q) w → Stands q (lowest_form f d) w
unfolding lowest_form
lowest_stands q f d w s h b m e =
    let g = content_of (d ∷ numbers_of f) in
    let c = content_is (d ∷ numbers_of f) in
    let z = content_not_zero d f h in
    let below = exact_div g d z c.divides.0 in
    let value = value_quotient g z f q c.divides.1 in
    let more : pos 0 <ℤ (g *ℤ int_div d g) = omega (arith, ints, below) in
    let big : pos 0 <ℤ g = let n = c.not_negative in by_order (pos 0) g (λ l. l) (λ i. absurd (z (sym i))) (λ l. absurd (omega (arith, ints))) in
    let v : RationalForm = record { form = f; denominator = d } in
    let r : RationalForm = record { form = quotient f g; denominator = int_div d g } in
    record {
      sorted = sorted_quotient g z f c.divides.1.1 s;
      positive = factor_positive big more;
      meant = m;
      same = same_value_trans (value_at r q) (value_at v q) w (mul_positive h b) (lowest_crossed g (form.value (quotient f g) q) (int_div d g) (form.value f q) d (pos q.below) value below) e;
    }

-- ---- equal fractions

crossed_sum : (a b c d x y z w : ℤ) → a *ℤ y ≡ x *ℤ b → c *ℤ w ≡ z *ℤ d → (a *ℤ d +ℤ c *ℤ b) *ℤ (y *ℤ w) ≡ (x *ℤ w +ℤ z *ℤ y) *ℤ (b *ℤ d)
crossed_sum a b c d x y z w e f =
    let p = simp ring at (ap (λ t. t *ℤ (d *ℤ w)) e) in
    let q = simp ring at (ap (λ t. t *ℤ (b *ℤ y)) f) in
    simp ring (omega (arith, ints, p, q))

crossed_product : (a b c d x y z w : ℤ) → a *ℤ y ≡ x *ℤ b → c *ℤ w ≡ z *ℤ d → (a *ℤ c) *ℤ (y *ℤ w) ≡ (x *ℤ z) *ℤ (b *ℤ d)
crossed_product a b c d x y z w e f =
    let p = simp ring at (ap (λ t. t *ℤ (c *ℤ w)) e) in
    let q = simp ring at (ap (λ t. (x *ℤ b) *ℤ t) f) in
    simp ring (omega (arith, ints, p, q))

sum_same : (p q v w : Frac) → SameValue p v → SameValue q w → SameValue (true_sum p q) (true_sum v w)
sum_same p q v w e f = crossed_sum p.numerator p.denominator q.numerator q.denominator v.numerator v.denominator w.numerator w.denominator e f

product_same : (p q v w : Frac) → SameValue p v → SameValue q w → SameValue (true_product p q) (true_product v w)
product_same p q v w e f = crossed_product p.numerator p.denominator q.numerator q.denominator v.numerator v.denominator w.numerator w.denominator e f

-- ---- sums

sum_crossed : (a c x y d k m w : ℤ) → d *ℤ x ≡ m → k *ℤ y ≡ m → (x *ℤ a +ℤ y *ℤ c) *ℤ ((d *ℤ w) *ℤ (k *ℤ w)) ≡ (a *ℤ (k *ℤ w) +ℤ c *ℤ (d *ℤ w)) *ℤ (m *ℤ w)
sum_crossed a c x y d k m w e f =
    let p = simp ring at (ap (λ z. z *ℤ (a *ℤ (k *ℤ (w *ℤ w)))) e) in
    let q = simp ring at (ap (λ z. z *ℤ (c *ℤ (d *ℤ (w *ℤ w)))) f) in
    simp ring (omega (arith, ints, p, q))

value_of_sum : (f g : Form) (x y : ℤ) (q : Point ℕ) → form.value (gathered (combine (pos 1) (scale x f) (pos 1) (scale y g))) q ≡ x *ℤ form.value f q +ℤ y *ℤ form.value g q
value_of_sum f g x y q =
    value_gathered (combine (pos 1) (scale x f) (pos 1) (scale y g)) q ∙ value_combine (pos 1) (scale x f) (pos 1) (scale y g) q
    ∙ ap (λ a. a +ℤ pos 1 *ℤ form.value (scale y g) q) (one_mul _ ∙ value_scale x f q) ∙ ap (λ a. x *ℤ form.value f q +ℤ a) (one_mul _ ∙ value_scale y g q)

pub plus_stands : (q : Point ℕ) → pos 0 <ℤ pos q.below → (a b r : RationalForm) (v w : Frac) → Stands q a v → Stands q b w → sum_of_forms a b ≡ Ok r → Stands q r (true_sum v w)
unfolding sum_of_forms
plus_stands q h a b r v w s t e =
    let d = a.denominator in let k = b.denominator in
    let e0 = bind_ok (formed_number (lcm_of d k)) _ r e in
    let m = e0.0 in
    let m_is = number_ok (lcm_of d k) m e0.1 in
    let e1 = bind_ok (formed_form (scale (int_div m d) a.form)) _ r e0.2 in
    let f_is = form_ok _ e1.0 e1.1 in
    let e2 = bind_ok (formed_form (scale (int_div m k) b.form)) _ r e1.2 in
    let g_is = form_ok _ e2.0 e2.1 in
    let e3 = bind_ok (formed_form (gathered (combine (pos 1) e1.0 (pos 1) e2.0))) _ r e2.2 in
    let sum_is = form_ok _ e3.0 e3.1 in
    let r_is : lowest_form e3.0 m ≡ r = ok_same _ _ e3.2 in
    let l = lcm_is s.positive t.positive in
    let x = int_div m d in let y = int_div m k in
    let ex : d *ℤ x ≡ m = exact_div d m (λ (z : d ≡ pos 0). let p = s.positive in omega (arith, ints)) (subst (Divides d) m_is l.left) in
    let ey : k *ℤ y ≡ m = exact_div k m (λ (z : k ≡ pos 0). let p = t.positive in omega (arith, ints)) (subst (Divides k) m_is l.right) in
    let m_positive = subst (λ z. pos 0 <ℤ z) m_is l.positive in
    let whole : gathered (combine (pos 1) (scale x a.form) (pos 1) (scale y b.form)) ≡ e3.0 = ap (λ f. gathered (combine (pos 1) f (pos 1) (scale y b.form))) f_is ∙ ap (λ g. gathered (combine (pos 1) e1.0 (pos 1) g)) g_is ∙ sum_is in
    let value = sym (ap (λ f. form.value f q) whole) ∙ value_of_sum a.form b.form x y q in
    let n = form.value e3.0 q in
    let crossed = ap (λ z. z *ℤ ((d *ℤ pos q.below) *ℤ (k *ℤ pos q.below))) value ∙ sum_crossed (form.value a.form q) (form.value b.form q) x y d k m (pos q.below) ex ey in
    let now : RationalForm = record { form = e3.0; denominator = m } in
    let both : IsProper (true_sum (value_at a q) (value_at b q)) = mul_positive (mul_positive s.positive h) (mul_positive t.positive h) in
    subst (λ u. Stands q u (true_sum v w)) r_is
    (lowest_stands q e3.0 m (true_sum v w) (subst IsSorted sum_is (gathered_sorted _)) m_positive h (mul_positive s.meant t.meant)
    (same_value_trans (value_at now q) (true_sum (value_at a q) (value_at b q)) (true_sum v w) both crossed (sum_same (value_at a q) (value_at b q) v w s.same t.same)))

-- ---- constants

no_terms : (ts : List Term) (at : ℕ → ℤ) → is_empty ts ≡ true → total ts at ≡ pos 0
no_terms [] at e = refl
no_terms (t ∷ ts) at e = absurd (cc)

constant_crossed : (t c d w : ℤ) → t ≡ pos 0 → (t +ℤ c *ℤ w) *ℤ d ≡ c *ℤ (d *ℤ w)
constant_crossed t c d w e = let p = ap (λ z. (z +ℤ c *ℤ w) *ℤ d) e in let q = zero_add (c *ℤ w) in p ∙ ap (λ z. z *ℤ d) q ∙ simp ring
  where
    zero_add : (a : ℤ) → pos 0 +ℤ a ≡ a
    zero_add a = omega (arith, ints)

-- a constant form has its fraction's value
pub constant_same : (q : Point ℕ) (v : RationalForm) → is_constant v ≡ true → SameValue (value_at v q) (constant_of v)
unfolding value_in
constant_same q v e = constant_crossed (total v.form.terms q.at) v.form.constant v.denominator (pos q.below) (no_terms v.form.terms q.at e)

pub constant_stands : (q : Point ℕ) → pos 0 <ℤ pos q.below → (u w : Frac) → IsProper u → IsProper w → SameValue u w → Stands q (constant_form u) w
constant_stands q h u w p m e = record {
  sorted = record { rising = tt; nonzero = tt };
  positive = p;
  meant = m;
  same = same_value_trans (value_at (constant_form u) q) u w p (constant_same q (constant_form u) refl) e;
}

-- the fraction of a constant form is what the form stands for
pub constant_is : (q : Point ℕ) → pos 0 <ℤ pos q.below → (v : RationalForm) (w : Frac) → is_constant v ≡ true → Stands q v w → SameValue (constant_of v) w
constant_is q h v w c s = same_value_trans (constant_of v) (value_at v q) w (mul_positive s.positive h) (sym (constant_same q v c)) s.same

-- ---- products

multiple_crossed : (n v d k w : ℤ) → (n *ℤ v) *ℤ ((d *ℤ w) *ℤ k) ≡ (v *ℤ n) *ℤ ((d *ℤ k) *ℤ w)
multiple_crossed n v d k w = simp ring

value_of_multiple : (n : ℤ) (f : Form) (q : Point ℕ) → form.value (gathered (scale n f)) q ≡ n *ℤ form.value f q
value_of_multiple n f q = value_gathered (scale n f) q ∙ value_scale n f q

pub multiple_stands : (q : Point ℕ) → pos 0 <ℤ pos q.below → (a r : RationalForm) (k v w : Frac) → Stands q a v → IsProper k → IsProper w → SameValue k w → multiple_of_form a k ≡ Ok r → Stands q r (true_product v w)
unfolding multiple_of_form
multiple_stands q h a r k v w s hk hw same e =
    let e0 = bind_ok (formed_form (gathered (scale k.numerator a.form))) _ r e in
    let f_is = form_ok _ e0.0 e0.1 in
    let e1 = bind_ok (formed_number (a.denominator *ℤ k.denominator)) _ r e0.2 in
    let d_is = number_ok _ e1.0 e1.1 in
    let r_is : lowest_form e0.0 e1.0 ≡ r = ok_same _ _ e1.2 in
    let value = sym (ap (λ f. form.value f q) f_is) ∙ value_of_multiple k.numerator a.form q in
    let now : RationalForm = record { form = e0.0; denominator = e1.0 } in
    let both = true_product (value_at a q) k in
    let crossed : SameValue (value_at now q) both =
    ap (λ z. z *ℤ ((a.denominator *ℤ pos q.below) *ℤ k.denominator)) value ∙ multiple_crossed k.numerator (form.value a.form q) a.denominator k.denominator (pos q.below)
    ∙ ap (λ z. (form.value a.form q *ℤ k.numerator) *ℤ (z *ℤ pos q.below)) d_is in
    subst (λ u. Stands q u (true_product v w)) r_is
    (lowest_stands q e0.0 e1.0 (true_product v w) (subst IsSorted f_is (gathered_sorted _)) (subst (λ z. pos 0 <ℤ z) d_is (mul_positive s.positive hk)) h (mul_positive s.meant hw)
    (same_value_trans (value_at now q) both (true_product v w) (mul_positive (mul_positive s.positive h) hk) crossed (product_same (value_at a q) k v w s.same same)))

swapped : (a b c d : ℤ) → (a *ℤ b) *ℤ (c *ℤ d) ≡ (b *ℤ a) *ℤ (d *ℤ c)
swapped a b c d = simp ring

-- the same value, put in another way
pub stands_as : (q : Point ℕ) → pos 0 <ℤ pos q.below → (v : RationalForm) (w u : Frac) → Stands q v w → IsProper u → SameValue w u → Stands q v u
stands_as q h v w u s m e = record { sorted = s.sorted; positive = s.positive; meant = m; same = same_value_trans (value_at v q) w u s.meant s.same e }

pub times_stands : (q : Point ℕ) → pos 0 <ℤ pos q.below → (a b r : RationalForm) (v w : Frac) → Stands q a v → Stands q b w → product_of_forms a b ≡ Ok r → Stands q r (true_product v w)
unfolding product_of_forms
times_stands q h a b r v w s t e = go (is_constant b) (is_constant a) refl refl e
  where
    go : (x y : Bool) → is_constant b ≡ x → is_constant a ≡ y →
        (if x then multiple_of_form a (constant_of b) else if y then multiple_of_form b (constant_of a) else Err Nonlinear) ≡ Ok r → Stands q r (true_product v w)
    go true y i j e = multiple_stands q h a r (constant_of b) v w s t.positive t.meant (constant_is q h b w i t) e
    go false true i j e =
        stands_as q h r (true_product w v) (true_product v w) (multiple_stands q h b r (constant_of a) w v t s.positive s.meant (constant_is q h a v j s) e) (mul_positive s.meant t.meant)
        (swapped w.numerator v.numerator v.denominator w.denominator)
    go false false i j e = absurd (cc)

-- ---- quotients

pub zero_int_eq : (a : ℤ) → int_eq a (pos 0) ≡ false → ¬ (a ≡ pos 0)
zero_int_eq a e z = let t = int_eq_zero a z in let f : true ≡ false = sym t ∙ e in absurd (cc)

quotient_of_other : (v w : Frac) → int_eq w.numerator (pos 0) ≡ false → true_quotient v w ≡ true_product v (inverted w)
quotient_of_other v w e = ap (λ b. if b then whole_frac (pos 0) else true_product v (inverted w)) e

int_eq_other : (a : ℤ) → ¬ (a ≡ pos 0) → int_eq a (pos 0) ≡ false
int_eq_other a h =
    by_compare a (pos 0)
    (λ l e. ap is_eq e)
    (λ l e. absurd (h l))
    (λ l e. ap is_eq e)

pub over_stands : (c : Context) (q : Point ℕ) → pos 0 <ℤ pos q.below → (a b r : RationalForm) (v w : Frac) → Stands q a v → Stands q b w → quotient_of_forms c a b ≡ Ok r → Stands q r (true_quotient v w)
unfolding quotient_of_forms
over_stands Integers q h a b r v w s t e = absurd (cc)
over_stands Fields q h a b r v w s t e = go (is_constant b) (int_eq b.form.constant (pos 0)) refl refl e
  where
    go : (x y : Bool) → is_constant b ≡ x → int_eq b.form.constant (pos 0) ≡ y →
        (if x then (if y then Err Division else multiple_of_form a (inverted (constant_of b))) else Err Division) ≡ Ok r → Stands q r (true_quotient v w)
    go true true i j e = absurd (cc)
    go true false i j e =
        let k = constant_of b in
        let same = constant_is q h b w i t in
        let nonzero : ¬ (k.numerator ≡ pos 0) = zero_int_eq k.numerator j in
        let other : ¬ (w.numerator ≡ pos 0) = λ z. nonzero (same_zero w.numerator w.denominator k.numerator k.denominator t.meant (sym same) z) in
        subst (Stands q r) (sym (quotient_of_other v w (int_eq_other w.numerator other)))
        (multiple_stands q h a r (inverted k) v (inverted w) s (inverted_proper k t.positive nonzero) (inverted_proper w t.meant other) (inverted_same k w t.positive t.meant same nonzero) e)
    go false y i j e = absurd (cc)

-- ---- powers

pub power_proper : (v : Frac) (n : ℕ) → IsProper v → IsProper (true_power v n)
unfolding true_power
power_proper v zero h = omega (arith, ints)
power_proper v (suc n) h = mul_positive (power_proper v n h) h

power_same : (p v : Frac) (n : ℕ) → SameValue p v → SameValue (true_power p n) (true_power v n)
unfolding true_power
power_same p v zero e = refl
power_same p v (suc n) e = product_same (true_power p n) p (true_power v n) v (power_same p v n e) e

first_power : (a b : ℤ) → a *ℤ (pos 1 *ℤ b) ≡ (pos 1 *ℤ a) *ℤ b
first_power a b = simp one_mul

small_power_stands : (q : Point ℕ) → pos 0 <ℤ pos q.below → (a r : RationalForm) (v : Frac) (n : ℕ) → Stands q a v → small_power a n ≡ Ok r → Stands q r (true_power v n)
unfolding true_power
small_power_stands q h a r v zero s e = subst (λ u. Stands q u (whole_frac (pos 1))) (ok_same _ _ e) (constant_stands q h (whole_frac (pos 1)) (whole_frac (pos 1)) (omega (arith, ints)) (omega (arith, ints)) refl)
small_power_stands q h a r v (suc zero) s e =
    subst (λ u. Stands q u (true_product (whole_frac (pos 1)) v)) (ok_same _ _ e)
    (stands_as q h a v (true_product (whole_frac (pos 1)) v) s (mul_positive (power_proper v 0 s.meant) s.meant) (first_power v.numerator v.denominator))
small_power_stands q h a r v (suc (suc n)) s e = absurd (cc)

constant_power_stands : (q : Point ℕ) → pos 0 <ℤ pos q.below → (a r : RationalForm) (v : Frac) (n : ℕ) → is_constant a ≡ true → Stands q a v → as_constant (power_steps (constant_of a) n) ≡ Ok r → Stands q r (true_power v n)
constant_power_stands q h a r v n c s e = go (power_steps (constant_of a) n) refl e
  where
    k : Frac
    k = constant_of a

    go : (o : Option Frac) → power_steps k n ≡ o → as_constant o ≡ Ok r → Stands q r (true_power v n)
    go None i e = absurd (cc)
    go (Some u) i e =
        let x = power_outcome k n (Some u) s.positive (sym i) in
        subst (λ t. Stands q t (true_power v n)) (ok_same _ _ e)
        (constant_stands q h u (true_power v n) x.proper (power_proper v n s.meant)
        (same_value_trans u (true_power k n) (true_power v n) (power_proper k n s.positive) x.value (power_same k v n (constant_is q h a v c s))))

pub power_stands : (q : Point ℕ) → pos 0 <ℤ pos q.below → (a r : RationalForm) (v : Frac) (n : Literal) → Stands q a v → power_of_form a n ≡ Ok r → Stands q r (true_power v (unsigned_abs (literal_number n)))
unfolding power_of_form
power_stands q h a r v (Fits n) s e = go (is_constant a) refl e
  where
    go : (b : Bool) → is_constant a ≡ b → (if b then as_constant (power_steps (constant_of a) (unsigned_abs n)) else small_power a (unsigned_abs n)) ≡ Ok r → Stands q r (true_power v (unsigned_abs n))
    go true i e = constant_power_stands q h a r v (unsigned_abs n) i s e
    go false i e = small_power_stands q h a r v (unsigned_abs n) s e
power_stands q h a r v Past s e = go (is_constant a) e
  where
    go : (b : Bool) → (let x : Result RationalForm Missing = if b then Err Overflow else Err Nonlinear in x) ≡ Ok r → Stands q r (true_power v (unsigned_abs (literal_number Past)))
    go true e = absurd (cc)
    go false e = absurd (cc)

-- ---- negatives

opposite_crossed : (v d a b : ℤ) → v *ℤ b ≡ a *ℤ d → (negsuc 0 *ℤ v) *ℤ b ≡ neg_ℤ a *ℤ d
opposite_crossed v d a b e = minus v ∙ simp ring (omega (arith, ints, e))
  where
    minus : (v : ℤ) → (negsuc 0 *ℤ v) *ℤ b ≡ neg_ℤ v *ℤ b
    minus v = ap (λ z. z *ℤ b) (omega (arith, ints))

pub opposite_stands : (q : Point ℕ) (a : RationalForm) (v : Frac) → Stands q a v → Stands q (opposite_form a) (negated v)
opposite_stands q a v s = record {
  sorted = scale_sorted (negsuc 0) a.form (λ (e : negsuc 0 ≡ pos 0). omega (arith, ints)) s.sorted;
  positive = s.positive;
  meant = s.meant;
  same = ap (λ z. z *ℤ v.denominator) (value_scale (negsuc 0) a.form q) ∙ opposite_crossed (form.value a.form q) (a.denominator *ℤ pos q.below) v.numerator v.denominator s.same;
}
