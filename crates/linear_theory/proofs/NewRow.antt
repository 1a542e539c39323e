-- The new row of two rows: positive multiples of them, in which the name cancels.
use Rattle.std.proofs.Common.{◌≡◌, ℕ, ◌||◌, List, [], ◌∷◌, ◌++◌, refl, sym, ap, ◌∙◌, subst, arith, if◌then◌else◌}
use Rattle.std.proofs.Math.IntN.{ℤ, pos, neg_ℤ, ◌+ℤ◌, ◌*ℤ◌}
use Rattle.std.specs.Prelude.{◌<ℤ◌, ◌≤ℤ◌, int_div}
use Rattle.std.proofs.lemmas.Int.{ints}
use Rattle.exact_numbers.specs.Divides.{gcd_of}
use Rattle.exact_numbers.specs.Division.{DividesAll}
use Rattle.exact_numbers.proofs.Ring.{one_mul, mul_zero, mul_comm, mul_assoc, mul_neg}
use Rattle.exact_numbers.proofs.Order.{by_less, cancel_positive, factor_positive}
use Rattle.exact_numbers.proofs.GreatestDivisor.{gcd_is, gcd_positive}
use Rattle.exact_numbers.proofs.LeastMultiple.{exact_div}
use Rattle.exact_numbers.proofs.Contents.{content_is}
use Rattle.logic_meaning.specs.Point.{Point}
use Rattle.logic_meaning.specs.Form.{Form, coefficient, value, combine}
use Rattle.logic_meaning.specs.Sorted.{IsSorted}
use Rattle.formula_laws.proofs.Values.{value_combine}
use Rattle.formula_laws.proofs.Coefficients.{coefficient_combine}
use Rattle.formula_laws.proofs.Gathered.{value_gathered, coefficient_gathered, constant_gathered, gathered_sorted}
use Rattle.logic_meaning.specs.Reduction.{quotient}
use Rattle.linear_forms.proofs.Quotients.{value_quotient, multiple_quotients, sorted_quotient}
use Rattle.linear_forms.proofs.Reduced.{by_equal}
use Rattle.logic_meaning.specs.Rows.{Row, Pair, above, below, upper_factor, lower_factor, joined, numbers_of, row_content, row_quotient, lowest_row, without_name}

-- ---- the factors

-- positive factors by which a and b become equal
record AreFactors (a b u l : ℤ) : Type 0 where
  first : pos 0 <ℤ u
  second : pos 0 <ℤ l
  equal : u *ℤ a ≡ l *ℤ b

factors_of : (a b : ℤ) → pos 0 <ℤ a → pos 0 <ℤ b → AreFactors a b (int_div b (gcd_of a b)) (int_div a (gcd_of a b))
factors_of a b pa pb =
    let is = gcd_is a b in
    let g : pos 0 <ℤ gcd_of a b = gcd_positive is (λ (e : b ≡ pos 0). omega (arith, ints)) in
    let z : ¬ (gcd_of a b ≡ pos 0) = λ e. absurd (omega (arith, ints)) in
    let ea = exact_div (gcd_of a b) a z is.left in
    let eb = exact_div (gcd_of a b) b z is.right in
    record {
      first = factor_positive g (subst (λ z. pos 0 <ℤ z) (sym eb) pb);
      second = factor_positive g (subst (λ z. pos 0 <ℤ z) (sym ea) pa);
      equal = cancel_positive (gcd_of a b) g
          (sym (mul_assoc (gcd_of a b) (int_div b (gcd_of a b)) a) ∙ ap (λ z. z *ℤ a) eb ∙ mul_comm b a ∙ ap (λ z. z *ℤ b) (sym ea) ∙ mul_assoc (gcd_of a b) (int_div a (gcd_of a b)) b);
    }

-- ---- divided

-- r is q with each number times a positive factor
record IsMultiple (r q : Row) : Type 0 where
  factor : ℤ
  positive : pos 0 <ℤ factor
  strict : q.strict ≡ r.strict
  coefficients : (y : ℕ) → factor *ℤ coefficient y q.form ≡ coefficient y r.form
  constant : factor *ℤ q.form.constant ≡ r.form.constant
  values : (p : Point ℕ) → factor *ℤ value q.form p ≡ value r.form p
  places : (i : ℕ) → factor *ℤ coefficient i q.multipliers ≡ coefficient i r.multipliers
  sorted : IsSorted r.form → IsSorted q.form

divides_first : (d : ℤ) (xs ys : List ℤ) → DividesAll d (xs ++ ys) → DividesAll d xs
divides_first d [] ys h = tt
divides_first d (x ∷ xs) ys h = (h.0, divides_first d xs ys h.1)

divides_second : (d : ℤ) (xs ys : List ℤ) → DividesAll d (xs ++ ys) → DividesAll d ys
divides_second d [] ys h = h
divides_second d (x ∷ xs) ys h = divides_second d xs ys h.1

coefficient_quotient : (d : ℤ) → ¬ (d ≡ pos 0) → (y : ℕ) (f : Form) → DividesAll d (numbers_of f) → d *ℤ coefficient y (quotient f d) ≡ coefficient y f
unfolding coefficient quotient
coefficient_quotient d z y f h = multiple_quotients d z y f.terms h.1

constant_quotient : (d : ℤ) → ¬ (d ≡ pos 0) → (f : Form) → DividesAll d (numbers_of f) → d *ℤ (quotient f d).constant ≡ f.constant
unfolding quotient
constant_quotient d z f h = exact_div d f.constant z h.0

itself : (r : Row) → IsMultiple r r
itself r = record {
  factor = pos 1;
  positive = omega (arith, ints);
  strict = refl;
  coefficients = λ y. one_mul (coefficient y r.form);
  constant = one_mul r.form.constant;
  values = λ p. one_mul (value r.form p);
  places = λ i. one_mul (coefficient i r.multipliers);
  sorted = λ s. s;
}

divided : (r : Row) → ¬ (row_content r ≡ pos 0) → IsMultiple r (row_quotient r (row_content r))
divided r z =
    let c = content_is (numbers_of r.form ++ numbers_of r.multipliers) in
    let d = row_content r in
    let f = divides_first d (numbers_of r.form) (numbers_of r.multipliers) c.divides in
    let m = divides_second d (numbers_of r.form) (numbers_of r.multipliers) c.divides in
    record {
      factor = d;
      positive = above_zero d c.not_negative z;
      strict = refl;
      coefficients = λ y. coefficient_quotient d z y r.form f;
      constant = constant_quotient d z r.form f;
      values = λ p. value_quotient d z r.form p f;
      places = λ i. coefficient_quotient d z i r.multipliers m;
      sorted = λ s. sorted_quotient d z r.form f.1 s;
    }
  where
    above_zero : (d : ℤ) → pos 0 ≤ℤ d → ¬ (d ≡ pos 0) → pos 0 <ℤ d
    above_zero d h n = by_less (pos 0) d (λ l. l) (λ (k : d ≤ℤ pos 0). absurd (n (omega (arith, ints))))

lowest_multiple : (r : Row) → IsMultiple r (lowest_row r)
lowest_multiple r = by_equal (λ b. IsMultiple r (if b then r else row_quotient r (row_content r))) (row_content r) (pos 0) (λ e. itself r) (divided r)

-- ---- the new row

-- a positive multiple of q is the sum of positive multiples of the two rows, in which x cancels
pub record IsNewRow (x : ℕ) (pair : Pair) (q : Row) : Type 0 where
  pub times : ℤ
  pub first : ℤ
  pub second : ℤ
  pub times_positive : pos 0 <ℤ times
  pub first_positive : pos 0 <ℤ first
  pub second_positive : pos 0 <ℤ second
  pub strict : q.strict ≡ (pair.upper.strict || pair.lower.strict)
  pub coefficients : (y : ℕ) → times *ℤ coefficient y q.form ≡ first *ℤ coefficient y pair.upper.form +ℤ second *ℤ coefficient y pair.lower.form
  pub constants : times *ℤ q.form.constant ≡ first *ℤ pair.upper.form.constant +ℤ second *ℤ pair.lower.form.constant
  pub values : (p : Point ℕ) → times *ℤ value q.form p ≡ first *ℤ value pair.upper.form p +ℤ second *ℤ value pair.lower.form p
  pub places : (i : ℕ) → times *ℤ coefficient i q.multipliers ≡ first *ℤ coefficient i pair.upper.multipliers +ℤ second *ℤ coefficient i pair.lower.multipliers
  pub name_gone : coefficient x q.form ≡ pos 0
  pub sorted : IsSorted q.form

pub constant_combine : (a : ℤ) (f : Form) (b : ℤ) (g : Form) → (combine a f b g).constant ≡ a *ℤ f.constant +ℤ b *ℤ g.constant
unfolding combine
constant_combine a f b g = refl

gone : (u l a n c q : ℤ) → pos 0 <ℤ c → u *ℤ a ≡ l *ℤ neg_ℤ n → c *ℤ q ≡ u *ℤ a +ℤ l *ℤ n → q ≡ pos 0
gone u l a n c q pc e f =
    let g = mul_neg l n in
    let z = mul_zero c in
    let h : c *ℤ q ≡ c *ℤ pos 0 = omega (arith, ints) in
    cancel_positive c pc h

pub new_row_is : (x : ℕ) (pair : Pair) → pos 0 <ℤ above x pair → pos 0 <ℤ below x pair → IsNewRow x pair (without_name x pair)
new_row_is x pair pa pb =
    let u = upper_factor x pair in
    let l = lower_factor x pair in
    let f = factors_of (above x pair) (below x pair) pa pb in
    let m = lowest_multiple (joined x pair) in
    let coefficients : (y : ℕ) → m.factor *ℤ coefficient y (without_name x pair).form ≡ u *ℤ coefficient y pair.upper.form +ℤ l *ℤ coefficient y pair.lower.form =
    λ y. m.coefficients y ∙ coefficient_gathered y (combine u pair.upper.form l pair.lower.form) ∙ coefficient_combine y u pair.upper.form l pair.lower.form in
    record {
      times = m.factor;
      first = u;
      second = l;
      times_positive = m.positive;
      first_positive = f.first;
      second_positive = f.second;
      strict = m.strict;
      coefficients = coefficients;
      constants = m.constant ∙ constant_gathered (combine u pair.upper.form l pair.lower.form) ∙ constant_combine u pair.upper.form l pair.lower.form;
      values = λ p. m.values p ∙ value_gathered (combine u pair.upper.form l pair.lower.form) p ∙ value_combine u pair.upper.form l pair.lower.form p;
      places = λ i. m.places i ∙ coefficient_gathered i (combine u pair.upper.multipliers l pair.lower.multipliers) ∙ coefficient_combine i u pair.upper.multipliers l pair.lower.multipliers;
      name_gone = gone u l (above x pair) (coefficient x pair.lower.form) m.factor (coefficient x (without_name x pair).form) m.positive f.equal (coefficients x);
      sorted = m.sorted (gathered_sorted (combine u pair.upper.form l pair.lower.form));
    }
