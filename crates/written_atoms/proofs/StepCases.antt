-- What the steps of the fraction rule give in each case.
use Rattle.std.proofs.Common.{◌≡◌, ◌<◌, ℕ, zero, suc, Bool, true, false, List, [], ◌∷◌, Option, Some, None, ap, sym, ◌∙◌, subst, refl, arith, not, ◌&&◌, if◌then◌else◌}
use Rattle.std.proofs.Math.IntN.{ℤ, pos, negsuc}
use Rattle.std.specs.Prelude.{◌≤ℤ◌, unsigned_abs, Result, Err, option_map}
use Rattle.std.specs.Ordering.{int_eq}
use Rattle.std.specs.Int.{w128, cast_unsigned}
use Rattle.std.proofs.lemmas.Int.{ints}
use Rattle.std.proofs.lemmas.Bool.{cond-true, cond-false}
use Rattle.exact_numbers.specs.Divides.{Divides, content_of}
use Rattle.exact_numbers.specs.Division.{DividesAll}
use Rattle.exact_numbers.specs.Frac.{Frac, IsLowest, inverted, power_steps}
use Rattle.exact_numbers.proofs.Contents.{content_is}
use Rattle.exact_numbers.proofs.Divisibility.{one_divides, neg_divides}
use Rattle.logic_meaning.specs.Context.{Fields, Integers}
use Rattle.logic_meaning.specs.Form.{Form, Term}
use Rattle.logic_meaning.specs.Reduction.{quotient}
use Rattle.linear_forms.proofs.Quotients.{quotient_minus_one}
use Rattle.language_meaning.specs.declared.tree.Literal.TheVariants.{Fits, Past}
use Rattle.language_meaning.specs.RationalForms.{RationalForm, Missing, Overflow, Nonlinear, Division, numbers_of, is_empty, is_constant, constant_form, constant_of, multiple_of_form, product_of_forms, quotient_of_forms, small_power, as_constant, power_of_form, opposite_form}
use Rattle.resolved_formulas.specs.LowestForms.{IsLowestForm}
use Rattle.written_atoms.specs.Rational.{there, is_divisor}

-- ---- products

pub times_second : (p q : RationalForm) → is_constant q ≡ true → product_of_forms p q ≡ multiple_of_form p (constant_of q)
unfolding product_of_forms
times_second p q e = cond-true (is_constant q) (multiple_of_form p (constant_of q)) _ e

pub times_first : (p q : RationalForm) → is_constant q ≡ false → is_constant p ≡ true → product_of_forms p q ≡ multiple_of_form q (constant_of p)
unfolding product_of_forms
times_first p q e f = cond-false (is_constant q) (multiple_of_form p (constant_of q)) _ e ∙ cond-true (is_constant p) (multiple_of_form q (constant_of p)) (Err Nonlinear) f

pub times_neither : (p q : RationalForm) → is_constant q ≡ false → is_constant p ≡ false → product_of_forms p q ≡ Err Nonlinear
unfolding product_of_forms
times_neither p q e f = cond-false (is_constant q) (multiple_of_form p (constant_of q)) _ e ∙ cond-false (is_constant p) (multiple_of_form q (constant_of p)) (Err Nonlinear) f

-- ---- quotients

pub over_integers : (p q : RationalForm) → quotient_of_forms Integers p q ≡ Err Division
unfolding quotient_of_forms
over_integers p q = refl

module _ (p q : RationalForm) where
  chosen : Bool → Bool → Result RationalForm Missing
  chosen x y = if x then (if y then Err Division else multiple_of_form p (inverted (constant_of q))) else Err Division

  over_fields : quotient_of_forms Fields p q ≡ chosen (is_constant q) (int_eq q.form.constant (pos 0))
  unfolding quotient_of_forms chosen
  over_fields = refl

  pub over_divisor : is_divisor q ≡ true → quotient_of_forms Fields p q ≡ multiple_of_form p (inverted (constant_of q))
  unfolding chosen
  over_divisor e = over_fields ∙ go (is_constant q) (int_eq q.form.constant (pos 0)) e
    where
      go : (x y : Bool) → (x && not y) ≡ true → chosen x y ≡ multiple_of_form p (inverted (constant_of q))
      go true false e = refl
      go true true e = absurd (cc)
      go false y e = absurd (cc)

  pub over_other : is_divisor q ≡ false → quotient_of_forms Fields p q ≡ Err Division
  unfolding chosen
  over_other e = over_fields ∙ go (is_constant q) (int_eq q.form.constant (pos 0)) e
    where
      go : (x y : Bool) → (x && not y) ≡ false → chosen x y ≡ Err Division
      go true false e = absurd (cc)
      go true true e = refl
      go false y e = refl

-- ---- powers

pub power_past : (p : RationalForm) → there (power_of_form p Past) ≡ None
unfolding power_of_form
power_past p = go (is_constant p)
  where
    go : (b : Bool) → (let r : Result RationalForm Missing = if b then Err Overflow else Err Nonlinear in there r) ≡ None
    go true = refl
    go false = refl

shown : (o : Option Frac) → there (as_constant o) ≡ option_map constant_form o
shown None = refl
shown (Some v) = refl

pub power_of_constant : (p : RationalForm) (n : ℤ) → is_constant p ≡ true → there (power_of_form p (Fits n)) ≡ option_map constant_form (power_steps (constant_of p) (unsigned_abs n))
unfolding power_of_form
power_of_constant p n e = ap there (cond-true (is_constant p) (as_constant (power_steps (constant_of p) (unsigned_abs n))) (small_power p (unsigned_abs n)) e) ∙ shown (power_steps (constant_of p) (unsigned_abs n))

pub power_of_other : (p : RationalForm) (n : ℤ) → is_constant p ≡ false → power_of_form p (Fits n) ≡ small_power p (unsigned_abs n)
unfolding power_of_form
power_of_other p n e = cond-false (is_constant p) (as_constant (power_steps (constant_of p) (unsigned_abs n))) (small_power p (unsigned_abs n)) e

pub large_power : (p : RationalForm) (k : ℕ) → 1 < k → small_power p k ≡ Err Nonlinear
large_power p zero h = absurd (omega arith)
large_power p (suc zero) h = absurd (omega arith)
large_power p (suc (suc k)) h = refl

-- a number that is not negative, and whose bits are neither those of 0 nor of 1
pub above_one : (z : ℤ) → pos 0 ≤ℤ z → ¬ (cast_unsigned w128 z ≡ 0) → ¬ (cast_unsigned w128 z ≡ 1) → 1 < unsigned_abs z
above_one (pos n) h k l = let f : ¬ (n ≡ 0) = k in let g : ¬ (n ≡ 1) = l in omega (arith, ints)
above_one (negsuc n) h k l = absurd (omega (arith, ints))

-- a constant form in lowest terms is a fraction in lowest terms
pub constant_lowest : (p : RationalForm) → is_constant p ≡ true → IsLowestForm p → IsLowest (constant_of p)
constant_lowest p e l = go p.form.terms e refl
  where
    go : (ts : List Term) → is_empty ts ≡ true → p.form.terms ≡ ts → IsLowest (constant_of p)
    go [] e i =
        let xs = p.denominator ∷ p.form.constant ∷ [] in
        let one : content_of xs ≡ pos 1 = ap (λ ts. content_of (p.denominator ∷ numbers_of (record { terms = ts; constant = p.form.constant }))) (sym i) ∙ l in
        let c = content_is xs in
        record {
          not_negative = omega (arith, ints);
          left = one_divides p.form.constant;
          right = one_divides p.denominator;
          greatest = λ d x y. subst (Divides d) one (c.greatest d (y, (x, tt)));
        }
    go (t ∷ ts) e i = absurd (cc)

-- ---- opposites

pub minus_divides : (xs : List ℤ) → DividesAll (negsuc 0) xs
minus_divides [] = tt
minus_divides (x ∷ xs) = (neg_divides (one_divides x), minus_divides xs)

pub opposite_is : (p : RationalForm) (r : Form) (d : ℤ) → r ≡ quotient p.form (negsuc 0) → d ≡ p.denominator → (let v : RationalForm = record { form = r; denominator = d } in v) ≡ opposite_form p
opposite_is p r d e f = let g = e ∙ quotient_minus_one p.form in λ i. record { form = g i; denominator = f i }
