-- A sum that is kept as a multiple of the fraction rule's form.
use Rattle.std.proofs.Common.{◌≡◌, ℕ, [], ◌∷◌, Some, None, ap, sym, ◌∙◌, subst, refl, arith}
use Rattle.std.proofs.Math.IntN.{ℤ, pos, ◌+ℤ◌, ◌*ℤ◌}
use Rattle.std.specs.Prelude.{◌≤ℤ◌, ◌<ℤ◌, int_div, Result, Ok, Err, IfOk}
use Rattle.std.specs.declared.alloc.AllocError.{AllocError}
use Rattle.std.proofs.lemmas.Int.{ints}
use Rattle.exact_numbers.specs.Limit.{InLimit}
use Rattle.exact_numbers.specs.Divides.{Divides, lcm_of, content_of}
use Rattle.exact_numbers.specs.Division.{IsLcm}
use Rattle.exact_numbers.proofs.Ring.{mul_comm, mul_assoc, one_mul}
use Rattle.exact_numbers.proofs.Order.{mul_positive, factor_positive, cancel_positive}
use Rattle.exact_numbers.proofs.Contents.{content_is}
use Rattle.exact_numbers.proofs.LeastMultiple.{exact_div, lcm_is}
use Rattle.logic_meaning.specs.Form.{Form, coefficient, scale, combine}
use Rattle.logic_meaning.specs.Sorted.{IsSorted, gathered}
use Rattle.logic_meaning.specs.Combining.{AddWithin}
use Rattle.formula_laws.proofs.Values.{value_combine}
use Rattle.formula_laws.proofs.Coefficients.{coefficient_combine, coefficient_scale}
use Rattle.formula_laws.proofs.Sorted.{sorted_determined, scale_sorted}
use Rattle.formula_laws.proofs.Gathered.{value_gathered, gathered_sorted, coefficient_gathered, constant_gathered}
use Rattle.logic_meaning.specs.Reduction.{quotient}
use Rattle.linear_forms.specs.Combinations.{IsLinear, IsCombination}
use Rattle.linear_forms.proofs.Quotients.{multiple_quotients, sorted_quotient}
use Rattle.linear_forms.proofs.Search.{multiple_within}
use Rattle.language_meaning.specs.FractionRule.{◌>>=◌}
use Rattle.language_meaning.specs.RationalForms.{RationalForm, Missing, numbers_of, lowest_form, sum_of_forms}
use Rattle.resolved_formulas.specs.LowestForms.{IsLowestForm}
use Rattle.resolved_formulas.proofs.FormSteps.{content_not_zero}
use Rattle.resolved_formulas.proofs.LowestForms.{lowest_lowest, sum_lowest}
use Rattle.written_atoms.specs.declared.rational.Rational.{Rational}
use Rattle.written_atoms.specs.declared.sum.WholeSum.{WholeSum}
use Rattle.written_atoms.specs.declared.sum.SharedSum.{SharedSum}
use Rattle.written_atoms.specs.declared.sum.RunningSum.TheVariants as running
use Rattle.written_atoms.specs.Rational.{rational_of, there, Shows}
use Rattle.written_atoms.specs.Entries.{coefficient_at}
use Rattle.written_atoms.specs.Sum.{IsSumOf, AddsWithin, IsAdded, IsMultiple, IsMultipleOf, StaysMultiple, ShowsSum, IsSummed}
use Rattle.written_atoms.proofs.Formed.{IsFormWithin, by_coefficients}
use Rattle.written_atoms.proofs.Steps.{sum_gives}
use Rattle.written_atoms.proofs.Multiples.{not_zero, factor_within, factors_within, factors_sum, lowest_multiple}
use Rattle.written_atoms.proofs.Readings.{some_there}

pub there_ok : (r : Result RationalForm Missing) (v : RationalForm) → there r ≡ Some v → r ≡ Ok v
there_ok (Ok w) v e = cc
there_ok (Err d) v e = absurd (cc)

constant_combine : (a : ℤ) (f : Form) (b : ℤ) (g : Form) → (combine a f b g).constant ≡ a *ℤ f.constant +ℤ b *ℤ g.constant
unfolding combine
constant_combine a f b g = refl

constant_scale : (a : ℤ) (f : Form) → (scale a f).constant ≡ a *ℤ f.constant
unfolding scale
constant_scale a f = refl

pub linear_within : (x : ℕ) (g : Form) → IsLinear g → InLimit (coefficient x g)
unfolding coefficient
linear_within x g l = multiple_within x g.terms l.sorted.rising l.within

-- ---- sums that begin with nothing

module _ (empty : WholeSum) (e : IsSumOf empty (record { terms = []; constant = pos 0 })) (k : ℤ) (f : Form) where
  nothing_at : (x : ℕ) → coefficient_at empty.coefficients.entries x ≡ pos 0
  unfolding coefficient
  nothing_at x = sym (e.coefficients x)

  alone : (n z : ℤ) → InLimit z → n ≡ pos 0 → AddWithin n z
  alone n z w h = record { first = subst (λ (y : ℤ). InLimit y) (sym h) (omega (arith, ints)); second = w; sum = subst (λ (y : ℤ). InLimit y) (last n z h) w }
    where
      last : (n z : ℤ) → n ≡ pos 0 → z ≡ n +ℤ z
      last n z h = omega (arith, ints)

  -- a form within the limit may be added to nothing
  pub may_begin : ((x : ℕ) → InLimit (k *ℤ coefficient x f)) → InLimit (k *ℤ f.constant) → AddsWithin empty k f
  may_begin h c = record { places = λ x. alone _ _ (h x) (nothing_at x); constants = alone _ _ c (sym e.constant) }

  module _ (s : WholeSum) (a : IsAdded empty k f s) where
    only : (n z m : ℤ) → m ≡ n +ℤ z → n ≡ pos 0 → m ≡ z
    only n z m p h = omega (arith, ints)

    pub begun : (x : ℕ) → coefficient_at s.coefficients.entries x ≡ k *ℤ coefficient x f
    begun x = only _ _ _ (a.coefficients x) (nothing_at x)

    pub begun_constant : s.constant ≡ k *ℤ f.constant
    begun_constant = only _ _ _ a.constant (sym e.constant)

-- a form by name
pub form_may_begin : (empty : WholeSum) (f : Form) → IsSumOf empty (record { terms = []; constant = pos 0 }) → IsLinear f → AddsWithin empty (pos 1) f
form_may_begin empty f e l = may_begin empty e (pos 1) f (λ x. subst (λ (z : ℤ). InLimit z) (sym (one_mul (coefficient x f))) (linear_within x f l)) (subst (λ (z : ℤ). InLimit z) (sym (one_mul f.constant)) l.constant_within)

pub form_begun : (empty s : WholeSum) (f : Form) → IsSumOf empty (record { terms = []; constant = pos 0 }) → IsLinear f → IsAdded empty (pos 1) f s → IsSumOf s f
form_begun empty s f e l a = record {
  sorted = l.sorted;
  coefficients = λ x. sym (begun empty e (pos 1) f s a x ∙ one_mul (coefficient x f));
  constant = sym (begun_constant empty e (pos 1) f s a ∙ one_mul f.constant);
}

-- the multiple of a sum
pub multiple_begun : (old empty s : WholeSum) (k : ℤ) (f : Form) → IsSumOf old f → IsSumOf empty (record { terms = []; constant = pos 0 }) → IsAdded empty k f s → IsMultiple k old s
multiple_begun old empty s k f o e a = record {
  coefficients = λ x. begun empty e k f s a x ∙ ap (λ z. k *ℤ z) (o.coefficients x);
  constant = begun_constant empty e k f s a ∙ ap (λ z. k *ℤ z) o.constant;
}

-- the denominator of the form is positive
positive_below : (s : SharedSum) (v : RationalForm) → IsMultipleOf v s → pos 0 <ℤ v.denominator
positive_below s v h = factor_positive h.positive (subst (λ z. pos 0 <ℤ z) h.denominator s.positive)

-- a sum that is a multiple of a form is one of that form in lowest terms
module _ (t : SharedSum) (m : ℤ) (r : Form) (j : ℤ) (p : pos 0 <ℤ m) (sorted : IsSorted r) where
  g : ℤ
  g = content_of (m ∷ numbers_of r)

  g_nonzero : ¬ (g ≡ pos 0)
  unfolding g
  g_nonzero = content_not_zero m r p

  g_positive : pos 0 <ℤ g
  unfolding g
  g_positive = above (content_is (m ∷ numbers_of r)).not_negative g_nonzero
    where
      above : {z : ℤ} → pos 0 ≤ℤ z → ¬ (z ≡ pos 0) → pos 0 <ℤ z
      above {z} n k = omega (arith, ints)

  grouped : (n z q : ℤ) → n ≡ j *ℤ z → g *ℤ q ≡ z → n ≡ (j *ℤ g) *ℤ q
  grouped n z q e f = e ∙ ap (λ y. j *ℤ y) (sym f) ∙ sym (mul_assoc j g q)

  pub lowest_is : pos 0 <ℤ j → t.denominator ≡ j *ℤ m → ((x : ℕ) → coefficient_at t.numerators.coefficients.entries x ≡ j *ℤ coefficient x r) → t.numerators.constant ≡ j *ℤ r.constant → IsMultipleOf (lowest_form r m) t
  unfolding lowest_form quotient coefficient g
  lowest_is jp below places constant =
      let divided = (content_is (m ∷ numbers_of r)).divides in record {
        factor = j *ℤ g;
        positive = mul_positive jp g_positive;
        coefficients = λ x. grouped _ _ _ (places x) (multiple_quotients g g_nonzero x r.terms divided.1.1);
        constant = grouped _ _ _ constant (exact_div g r.constant g_nonzero divided.1.0);
        denominator = grouped _ _ _ below (exact_div g m g_nonzero divided.0);
        sorted = sorted_quotient g g_nonzero r divided.1.1 sorted;
        lowest = lowest_lowest r m p;
      }

-- ---- a part whose denominator divides that of the sum

module _ (s : SharedSum) (v w : RationalForm) (h : IsMultipleOf v s) (positive : pos 0 <ℤ w.denominator) (l : IsLinear w.form) (divides : Divides w.denominator s.denominator) where
  pub m : ℤ
  m = lcm_of v.denominator w.denominator

  least : IsLcm v.denominator w.denominator m
  unfolding m
  least = lcm_is (positive_below s v h) positive

  below : Divides m s.denominator
  below = least.least s.denominator (record { quotient = h.factor; exact = h.denominator ∙ mul_comm h.factor v.denominator }) divides

  j : ℤ
  j = below.quotient

  whole : s.denominator ≡ m *ℤ j
  unfolding j
  whole = below.exact

  j_positive : pos 0 <ℤ j
  j_positive = factor_positive least.positive (subst (λ z. pos 0 <ℤ z) whole s.positive)

  a : ℤ
  a = int_div m v.denominator

  b : ℤ
  b = int_div m w.denominator

  -- what the part is multiplied with
  pub c : ℤ
  c = int_div s.denominator w.denominator

  a_exact : v.denominator *ℤ a ≡ m
  unfolding a
  a_exact = exact_div v.denominator m (not_zero v.denominator (positive_below s v h)) least.left

  b_exact : w.denominator *ℤ b ≡ m
  unfolding b
  b_exact = exact_div w.denominator m (not_zero w.denominator positive) least.right

  c_exact : w.denominator *ℤ c ≡ s.denominator
  unfolding c
  c_exact = exact_div w.denominator s.denominator (not_zero w.denominator positive) divides

  turned : (d q n : ℤ) → d *ℤ q ≡ m → s.denominator ≡ d *ℤ n → d *ℤ n ≡ d *ℤ (j *ℤ q)
  turned d q n e f = sym f ∙ whole ∙ ap (λ z. z *ℤ j) (sym e) ∙ mul_assoc d q j ∙ ap (λ z. d *ℤ z) (mul_comm q j)

  factor_is : h.factor ≡ j *ℤ a
  factor_is = cancel_positive v.denominator (positive_below s v h) (turned v.denominator a h.factor a_exact (h.denominator ∙ mul_comm h.factor v.denominator))

  c_is : c ≡ j *ℤ b
  c_is = cancel_positive w.denominator positive (turned w.denominator b c b_exact (sym c_exact))

  pub r : Form
  r = gathered (combine a v.form b w.form)

  r_coefficient : (x : ℕ) → coefficient x r ≡ a *ℤ coefficient x v.form +ℤ b *ℤ coefficient x w.form
  unfolding r
  r_coefficient x = coefficient_gathered x (combine a v.form b w.form) ∙ coefficient_combine x a v.form b w.form

  r_constant : r.constant ≡ a *ℤ v.form.constant +ℤ b *ℤ w.form.constant
  unfolding r
  r_constant = constant_gathered (combine a v.form b w.form) ∙ constant_combine a v.form b w.form

  r_sorted : IsSorted r
  unfolding r
  r_sorted = gathered_sorted (combine a v.form b w.form)

  m_within : InLimit m
  m_within = factor_within j m s.denominator j_positive (whole ∙ mul_comm m j) s.within

  module _ (fits : AddsWithin s.numerators c w.form) where
    place_within : (x : ℕ) → AddWithin (a *ℤ coefficient x v.form) (b *ℤ coefficient x w.form)
    place_within x = factors_within j a b h.factor c (coefficient x v.form) (coefficient x w.form) (coefficient_at s.numerators.coefficients.entries x) j_positive factor_is c_is (h.coefficients x) (fits.places x)

    constants_within : AddWithin (a *ℤ v.form.constant) (b *ℤ w.form.constant)
    constants_within = factors_within j a b h.factor c v.form.constant w.form.constant s.numerators.constant j_positive factor_is c_is h.constant fits.constants

    r_within : IsFormWithin r
    r_within = by_coefficients r r_sorted.rising (λ x. subst (λ (z : ℤ). InLimit z) (sym (r_coefficient x)) (place_within x).sum) (subst (λ (z : ℤ). InLimit z) (sym r_constant) constants_within.sum)

    combined : IsCombination a v.form b w.form r
    unfolding r
    combined = record {
      linear = record { sorted = r_sorted; within = r_within.terms; constant_within = r_within.constant };
      coefficients_add = r_coefficient;
      constants_add = r_constant;
      values_add = λ q. value_gathered (combine a v.form b w.form) q ∙ value_combine a v.form b w.form q;
      within = record { places = place_within; constants = constants_within };
    }

    pub rule_gives : sum_of_forms v w ≡ Ok (lowest_form r m)
    unfolding a b m
    rule_gives = there_ok _ _ (sum_gives v w m refl (record { first_sorted = h.sorted; second_sorted = l.sorted; first_positive = positive_below s v h; second_positive = positive }) m_within r combined)

    module _ (t : SharedSum) (below_same : t.denominator ≡ s.denominator) (d : IsAdded s.numerators c w.form t.numerators) where
      pub sum_is : IsMultipleOf (lowest_form r m) t
      sum_is = lowest_is t m r j least.positive r_sorted j_positive (below_same ∙ whole ∙ mul_comm m j)
          (λ x. factors_sum j a b h.factor c (coefficient x v.form) (coefficient x w.form) (coefficient_at s.numerators.coefficients.entries x) (coefficient_at t.numerators.coefficients.entries x) (coefficient x r) factor_is c_is (h.coefficients x) (d.coefficients x) (r_coefficient x))
          (factors_sum j a b h.factor c v.form.constant w.form.constant s.numerators.constant t.numerators.constant r.constant factor_is c_is h.constant d.constant r_constant)

-- ---- the steps of the program

-- a part that is added
pub part_added : (s t : SharedSum) (part : Rational) → Divides part.denominator s.denominator → IsLinear part.form → AddsWithin s.numerators (int_div s.denominator part.denominator) part.form
    → t.denominator ≡ s.denominator → IsAdded s.numerators (int_div s.denominator part.denominator) part.form t.numerators → IsSummed (running.Known s) (Some part) (running.Known t)
unfolding c
part_added s t part divides l fits same d p q sp sq =
    let v = sp.0 in let h = sp.2 in let w = rational_of part in
    (lowest_form (r s v w h part.positive l divides) (m s v w h part.positive l divides), (λ i. sp.1 i >>= λ x. some_there part q sq i >>= λ y. sum_of_forms x y) ∙ rule_gives s v w h part.positive l divides fits, sum_is s v w h part.positive l divides fits t same d)

-- a sum that first grows, and is then added to
pub after_growing : (s t u : SharedSum) (part : Rational) → StaysMultiple s t → IsSummed (running.Known t) (Some part) (running.Known u) → IsSummed (running.Known s) (Some part) (running.Known u)
after_growing s t u part stays added p q sp sq = added p q (sp.0, sp.1, stays sp.0 sp.2) sq

-- a sum that grows to a multiple of its denominator
pub grown_stays : (s t : SharedSum) (d : ℤ) → pos 0 <ℤ d → Divides s.denominator d → IsMultiple (int_div d s.denominator) s.numerators t.numerators → t.denominator ≡ d → StaysMultiple s t
grown_stays s t d p divides n e v h =
    let k = int_div d s.denominator in
    let exact : s.denominator *ℤ k ≡ d = exact_div s.denominator d (not_zero s.denominator s.positive) divides in
    let kp : pos 0 <ℤ k = factor_positive s.positive (subst (λ z. pos 0 <ℤ z) (sym exact) p) in
    record {
      factor = k *ℤ h.factor;
      positive = mul_positive kp h.positive;
      coefficients = λ x. n.coefficients x ∙ ap (λ z. k *ℤ z) (h.coefficients x) ∙ sym (mul_assoc k h.factor (coefficient x v.form));
      constant = n.constant ∙ ap (λ z. k *ℤ z) h.constant ∙ sym (mul_assoc k h.factor v.form.constant);
      denominator = e ∙ sym exact ∙ mul_comm s.denominator k ∙ ap (λ z. k *ℤ z) h.denominator ∙ sym (mul_assoc k h.factor v.denominator);
      sorted = h.sorted;
      lowest = h.lowest;
    }

-- a form in lowest terms by name
pub form_by_name : (s : SharedSum) (v : RationalForm) → IsLowestForm v → IsSumOf s.numerators v.form → s.denominator ≡ v.denominator → IsMultipleOf v s
form_by_name s v l n e = record {
  factor = pos 1;
  positive = omega (arith, ints);
  coefficients = λ x. sym (n.coefficients x) ∙ sym (one_mul (coefficient x v.form));
  constant = sym n.constant ∙ sym (one_mul v.form.constant);
  denominator = e ∙ sym (one_mul v.denominator);
  sorted = n.sorted;
  lowest = l;
}

-- the form that a sum reduces to
pub reduces_to : (s : SharedSum) (f : Form) (v : RationalForm) → IsSumOf s.numerators f → IsMultipleOf v s → lowest_form f s.denominator ≡ v
reduces_to s f v n h =
    let e : f ≡ scale h.factor v.form = sorted_determined f (scale h.factor v.form) n.sorted (scale_sorted h.factor v.form (not_zero h.factor h.positive) h.sorted)
    (λ x. n.coefficients x ∙ h.coefficients x ∙ sym (coefficient_scale x h.factor v.form)) (n.constant ∙ h.constant ∙ sym (constant_scale h.factor v.form)) in
    (λ i. lowest_form (e i) (h.denominator i)) ∙ lowest_multiple h.factor h.positive v h.lowest

pub if_lowest : (s : SharedSum) (f : Form) (r : Result Rational AllocError) → IsSumOf s.numerators f → IfOk r (λ r. rational_of r ≡ lowest_form f s.denominator) → IfOk r (λ r. (v : RationalForm) → IsMultipleOf v s → rational_of r ≡ v)
if_lowest s f (Ok r) n e = λ v h. e ∙ reduces_to s f v n h
if_lowest s f (Err r) n e = tt

-- the step of the rule itself, on the form of a sum that stayed
module _ (s u : SharedSum) (total part : Rational) (stays : StaysMultiple s u) (is : (v : RationalForm) → IsMultipleOf v u → rational_of total ≡ v) where
  stepped : (p q : Result RationalForm Missing) → ShowsSum (running.Known s) p → Shows (Some part) q → (p >>= λ v. q >>= λ w. sum_of_forms v w) ≡ sum_of_forms (rational_of total) (rational_of part)
  stepped p q sp sq = (λ i. sp.1 i >>= λ x. some_there part q sq i >>= λ y. sum_of_forms x y) ∙ ap (λ x. sum_of_forms x (rational_of part)) (sym (is sp.0 (stays sp.0 sp.2)))

  pub rule_shows : (t : SharedSum) (sum : Rational) → Some (rational_of sum) ≡ there (sum_of_forms (rational_of total) (rational_of part)) → IsMultipleOf (rational_of sum) t → IsSummed (running.Known s) (Some part) (running.Known t)
  rule_shows t sum e h p q sp sq = (rational_of sum, stepped p q sp sq ∙ there_ok _ _ (sym e), h)

  pub rule_misses : None ≡ there (sum_of_forms (rational_of total) (rational_of part)) → IsSummed (running.Known s) (Some part) running.Missing
  rule_misses e p q sp sq = ap there (stepped p q sp sq) ∙ sym e

pub rule_lowest : (total part sum : Rational) → there (sum_of_forms (rational_of total) (rational_of part)) ≡ Some (rational_of sum) → IsLowestForm (rational_of sum)
rule_lowest total part sum e = sum_lowest (rational_of total) (rational_of part) (rational_of sum) total.positive part.positive (there_ok _ _ e)

-- the form that is shown
pub form_shown : (s : SharedSum) (total : Rational) (p : Result RationalForm Missing) → ((v : RationalForm) → IsMultipleOf v s → rational_of total ≡ v) → ShowsSum (running.Known s) p → Shows (Some total) p
form_shown s total p is sp = ap Some (is sp.0 sp.2) ∙ sym (ap there sp.1)
