-- A form over a denominator, divided by the greatest common divisor of all its numbers: the same fraction.
use Rattle.std.proofs.Common.{◌≡◌, ℕ, ◌<◌, ◌/◌, List, [], ◌∷◌, ap, ap₂, sym, ◌∙◌, subst, refl, arith, unsigned_abs, int_div, nat_eq, Bool, true, false, if◌then◌else◌}
use Rattle.std.proofs.Math.IntN.{ℤ, pos, negsuc, ◌+ℤ◌, ◌*ℤ◌}
use Rattle.std.specs.Prelude.{◌<ℤ◌, ◌≤ℤ◌}
use Rattle.std.proofs.lemmas.Int.{ints}
use Rattle.exact_numbers.specs.Divides.{Divides, content_of}
use Rattle.exact_numbers.specs.Division.{DividesAll}
use Rattle.exact_numbers.proofs.Ring.{mul_zero, zero_mul, mul_add, mul_assoc}
use Rattle.exact_numbers.proofs.Order.{cancel, factor_positive}
use Rattle.exact_numbers.proofs.LeastMultiple.{exact_div}
use Rattle.exact_numbers.proofs.Contents.{content_is}
use Rattle.logic_meaning.specs.Point.{Point}
use Rattle.logic_meaning.specs.Form.{Form, Term, total, value, multiple, coefficient, coefficients}
use Rattle.logic_meaning.specs.Sorted.{IsSorted, gathered}
use Rattle.formula_laws.proofs.Gathered.{gathered_is}
use Rattle.logic_meaning.specs.FieldsPoints.{numbers_of, divisor_of, terms_over, form_over}

-- what the divisor and the quotients have to do with the fraction
pub record IsLowest (e : Form) (d : ℕ) : Type 0 where
  pub divisor_positive : pos 0 <ℤ pos (divisor_of e d)
  pub below_positive : pos 0 <ℤ pos (d / divisor_of e d)
  pub below_times : pos (divisor_of e d) *ℤ pos (d / divisor_of e d) ≡ pos d
  pub value_times : (p : Point ℕ) → pos (divisor_of e d) *ℤ value (form_over (divisor_of e d) e) p ≡ value e p
  pub coefficient_times : (x : ℕ) → pos (divisor_of e d) *ℤ coefficient x (form_over (divisor_of e d) e) ≡ coefficient x e

over_step : (g t q b r s : ℤ) → g *ℤ q ≡ t → g *ℤ r ≡ s → g *ℤ (q *ℤ b +ℤ r) ≡ t *ℤ b +ℤ s
over_step g t q b r s e f = mul_add g (q *ℤ b) r ∙ ap₂ (λ x y. x +ℤ y) (sym (mul_assoc g q b) ∙ ap (λ z. z *ℤ b) e) f

over_step' : (g t q b r s : ℤ) → g *ℤ q ≡ t → g *ℤ r ≡ s → g *ℤ (r +ℤ q *ℤ b) ≡ s +ℤ t *ℤ b
over_step' g t q b r s e f = let h = over_step g t q b r s e f in let i : r +ℤ q *ℤ b ≡ q *ℤ b +ℤ r = omega (arith, ints) in ap (λ z. g *ℤ z) i ∙ h ∙ omega (arith, ints)

total_over : (g : ℕ) (ts : List Term) (at : ℕ → ℤ) → ¬ (pos g ≡ pos 0) → DividesAll (pos g) (coefficients ts) → pos g *ℤ total (terms_over g ts) at ≡ total ts at
total_over g [] at n h = mul_zero (pos g)
total_over g (t ∷ ts) at n h = over_step (pos g) t.times (int_div t.times (pos g)) (at t.name) _ (total ts at) (exact_div (pos g) t.times n h.0) (total_over g ts at n h.1)

pub value_over : (g : ℕ) (e : Form) (p : Point ℕ) → ¬ (pos g ≡ pos 0) → Divides (pos g) e.constant → DividesAll (pos g) (coefficients e.terms) → pos g *ℤ value (form_over g e) p ≡ value e p
unfolding value form_over
value_over g e p n h k = over_step' (pos g) e.constant (int_div e.constant (pos g)) (pos p.below) _ (total e.terms p.at) (exact_div (pos g) e.constant n h) (total_over g e.terms p.at n k)

multiple_over : (x g : ℕ) (ts : List Term) → ¬ (pos g ≡ pos 0) → DividesAll (pos g) (coefficients ts) → pos g *ℤ multiple x (terms_over g ts) ≡ multiple x ts
multiple_over x g [] n h = mul_zero (pos g)
multiple_over x g (t ∷ ts) n h = go (nat_eq x t.name) (multiple_over x g ts n h.1)
  where
    go : (b : Bool) → pos g *ℤ multiple x (terms_over g ts) ≡ multiple x ts →
        pos g *ℤ (if b then int_div t.times (pos g) +ℤ multiple x (terms_over g ts) else multiple x (terms_over g ts)) ≡ (if b then t.times +ℤ multiple x ts else multiple x ts)
    go true i = mul_add (pos g) (int_div t.times (pos g)) (multiple x (terms_over g ts)) ∙ ap₂ (λ a b. a +ℤ b) (exact_div (pos g) t.times n h.0) i
    go false i = i

pub coefficient_over : (x g : ℕ) (e : Form) → ¬ (pos g ≡ pos 0) → DividesAll (pos g) (coefficients e.terms) → pos g *ℤ coefficient x (form_over g e) ≡ coefficient x e
unfolding coefficient form_over
coefficient_over x g e n h = multiple_over x g e.terms n h

pub natural : (a : ℤ) → pos 0 ≤ℤ a → a ≡ pos (unsigned_abs a)
natural (pos a) h = refl
natural (negsuc a) h = absurd (omega (arith, ints))

not_zero : (g d : ℕ) → 0 < d → Divides (pos g) (pos d) → ¬ (pos g ≡ pos 0)
not_zero g d h v e =
    let f = ap (λ z. z *ℤ v.quotient) e in
    let z = zero_mul v.quotient in
    let x = v.exact in
    absurd (omega (arith, ints))

-- the divisor divides all numbers
pub all_divided : (e : Form) (d : ℕ) → DividesAll (pos (divisor_of e d)) (numbers_of e d)
all_divided e d = let c = content_is (numbers_of e d) in subst (λ g. DividesAll g (numbers_of e d)) (natural (content_of (numbers_of e d)) c.not_negative) c.divides

pub divisor_not_zero : (e : Form) (d : ℕ) → 0 < d → ¬ (pos (divisor_of e d) ≡ pos 0)
divisor_not_zero e d h = not_zero (divisor_of e d) d h (all_divided e d).0

pub lowest : (e : Form) (d : ℕ) → 0 < d → IsLowest e d
lowest e d h =
    let v : DividesAll (pos (divisor_of e d)) (numbers_of e d) = all_divided e d in
    let n : ¬ (pos (divisor_of e d) ≡ pos 0) = divisor_not_zero e d h in
    let g : pos 0 <ℤ pos (divisor_of e d) = omega (arith, ints) in
    let b : pos (divisor_of e d) *ℤ pos (d / divisor_of e d) ≡ pos d = exact_div (pos (divisor_of e d)) (pos d) n v.0 in
    let q : pos 0 <ℤ (pos (divisor_of e d) *ℤ pos (d / divisor_of e d)) = omega (arith, ints) in
    record {
      divisor_positive = g;
      below_positive = factor_positive g q;
      below_times = b;
      value_times = λ p. value_over (divisor_of e d) e p n v.1.0 v.1.1;
      coefficient_times = λ x. coefficient_over x (divisor_of e d) e n v.1.1;
    }

constant_over : (g : ℕ) (e : Form) → ¬ (pos g ≡ pos 0) → Divides (pos g) e.constant → pos g *ℤ (form_over g e).constant ≡ e.constant
unfolding form_over
constant_over g e n d = exact_div (pos g) e.constant n d

-- the sorted form of a quotient is the sorted form whose numbers, g times as large, are those of the form
pub gathered_over : (g : ℕ) (e q : Form) → ¬ (pos g ≡ pos 0) → Divides (pos g) e.constant → DividesAll (pos g) (coefficients e.terms) →
    IsSorted q → ((x : ℕ) → pos g *ℤ coefficient x q ≡ coefficient x e) → pos g *ℤ q.constant ≡ e.constant → gathered (form_over g e) ≡ q
gathered_over g e q n d h s c k =
    gathered_is (form_over g e) q s (λ x. cancel (pos g) n (c x ∙ sym (coefficient_over x g e n h))) (cancel (pos g) n (k ∙ sym (constant_over g e n d)))
