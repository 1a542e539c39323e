-- What a form divided by a common divisor of its numbers keeps. All numbers are unlimited.
use Rattle.std.proofs.Common.{◌≡◌, ℕ, List, [], ◌∷◌, ap, sym, ◌∙◌, refl, arith}
use Rattle.std.proofs.Math.IntN.{ℤ, pos, negsuc, ◌+ℤ◌, ◌*ℤ◌}
use Rattle.std.specs.Prelude.{int_div}
use Rattle.std.proofs.lemmas.Int.{ints}
use Rattle.exact_numbers.specs.Divides.{Divides, content_of}
use Rattle.exact_numbers.specs.Division.{DividesAll, IsContent}
use Rattle.exact_numbers.proofs.Ring.{ring, mul_zero, mul_one, one_mul, mul_assoc}
use Rattle.exact_numbers.proofs.Divisibility.{one_divides, divides_along, divides_trans, mul_divides_mul, cancel_divides}
use Rattle.exact_numbers.proofs.LeastMultiple.{exact_div}
use Rattle.exact_numbers.proofs.Contents.{content_is, content_unique}
use Rattle.logic_meaning.specs.Point.{Point}
use Rattle.logic_meaning.specs.Form.{Form, Term, total, multiple, value, scaled, scale}
use Rattle.logic_meaning.specs.Sorted.{AllAbove, IsRising, AllNonzero, IsSorted}
use Rattle.logic_meaning.specs.Terms.{coefficients}
use Rattle.logic_meaning.specs.Reduction.{quotients, quotient}
use Rattle.linear_forms.proofs.Reduced.{quotient_is}
use Rattle.linear_forms.proofs.Totals.{one_at, multiple_total}

-- each number divided by d
abbrev pub all_divided : ℤ → List ℤ → List ℤ
all_divided d [] = []
all_divided d (x ∷ xs) = int_div x d ∷ all_divided d xs

pub coefficients_quotients : (d : ℤ) (ts : List Term) → coefficients (quotients d ts) ≡ all_divided d (coefficients ts)
coefficients_quotients d [] = refl
coefficients_quotients d (t ∷ ts) = ap (λ xs. int_div t.times d ∷ xs) (coefficients_quotients d ts)

-- divided by 1
pub one_quotient : (n : ℤ) → int_div n (pos 1) ≡ n
one_quotient n = sym (quotient_is (pos 1) n n (λ (e : pos 1 ≡ pos 0). omega (arith, ints)) (one_mul n))

pub quotients_one : (ts : List Term) → quotients (pos 1) ts ≡ ts
quotients_one [] = refl
quotients_one (t ∷ ts) = let k = one_quotient t.times in let r = quotients_one ts in λ i. record { times = k i; name = t.name } ∷ r i

pub quotient_one : (f : Form) → quotient f (pos 1) ≡ f
unfolding quotient
quotient_one f = let t = quotients_one f.terms in let k = one_quotient f.constant in λ i. record { terms = t i; constant = k i }

-- divided by -1
minus_quotient : (n : ℤ) → int_div n (negsuc 0) ≡ negsuc 0 *ℤ n
minus_quotient n = sym (quotient_is (negsuc 0) (negsuc 0 *ℤ n) n (λ (e : negsuc 0 ≡ pos 0). omega (arith, ints)) (sym (mul_assoc (negsuc 0) (negsuc 0) n) ∙ one_mul n))

minus_quotients : (ts : List Term) → quotients (negsuc 0) ts ≡ scaled (negsuc 0) ts
minus_quotients [] = refl
minus_quotients (t ∷ ts) = let k = minus_quotient t.times in let r = minus_quotients ts in λ i. record { times = k i; name = t.name } ∷ r i

pub quotient_minus_one : (f : Form) → quotient f (negsuc 0) ≡ scale (negsuc 0) f
unfolding quotient scale
quotient_minus_one f = let t = minus_quotients f.terms in let k = minus_quotient f.constant in λ i. record { terms = t i; constant = k i }

pub divided_step : (d q p n s t : ℤ) → d *ℤ q ≡ p → d *ℤ s ≡ t → d *ℤ (q *ℤ n +ℤ s) ≡ p *ℤ n +ℤ t
divided_step d q p n s t e g = let x = simp ring at (ap (λ k. k *ℤ n) e) in simp ring (omega (arith, ints, x, g))

module _ (d : ℤ) (z : ¬ (d ≡ pos 0)) where
  -- a quotient is 0 only where the number is
  quotient_nonzero : (n : ℤ) → Divides d n → ¬ (n ≡ pos 0) → ¬ (int_div n d ≡ pos 0)
  quotient_nonzero n h k e = k (sym (exact_div d n z h) ∙ ap (λ q. d *ℤ q) e ∙ mul_zero d)

  pub total_quotients : (ts : List Term) (at : ℕ → ℤ) → DividesAll d (coefficients ts) → d *ℤ total (quotients d ts) at ≡ total ts at
  total_quotients [] at h = mul_zero d
  total_quotients (t ∷ ts) at h = divided_step d (int_div t.times d) t.times (at t.name) (total (quotients d ts) at) (total ts at) (exact_div d t.times z h.0) (total_quotients ts at h.1)

  pub value_quotient : (f : Form) (p : Point ℕ) → DividesAll d (f.constant ∷ coefficients f.terms) → d *ℤ value (quotient f d) p ≡ value f p
  unfolding value quotient
  value_quotient f p h =
      let t = total_quotients f.terms p.at h.1 in
      let x = simp ring at (ap (λ k. k *ℤ pos p.below) (exact_div d f.constant z h.0)) in
      simp ring (omega (arith, ints, x, t))

  pub multiple_quotients : (x : ℕ) (ts : List Term) → DividesAll d (coefficients ts) → d *ℤ multiple x (quotients d ts) ≡ multiple x ts
  multiple_quotients x ts h = ap (λ m. d *ℤ m) (multiple_total x (quotients d ts)) ∙ total_quotients ts (one_at x) h ∙ sym (multiple_total x ts)

  above_quotients : (x : ℕ) (ts : List Term) → AllAbove x ts → AllAbove x (quotients d ts)
  above_quotients x [] a = tt
  above_quotients x (t ∷ ts) a = (a.0, above_quotients x ts a.1)

  pub rising_quotients : (ts : List Term) → IsRising ts → IsRising (quotients d ts)
  rising_quotients [] a = tt
  rising_quotients (t ∷ ts) a = (above_quotients t.name ts a.0, rising_quotients ts a.1)

  pub nonzero_quotients : (ts : List Term) → DividesAll d (coefficients ts) → AllNonzero ts → AllNonzero (quotients d ts)
  nonzero_quotients [] h n = tt
  nonzero_quotients (t ∷ ts) h n = (quotient_nonzero t.times h.0 n.0, nonzero_quotients ts h.1 n.1)

  pub sorted_quotient : (f : Form) → DividesAll d (coefficients f.terms) → IsSorted f → IsSorted (quotient f d)
  unfolding quotient
  sorted_quotient f h s = record { rising = rising_quotients f.terms s.rising; nonzero = nonzero_quotients f.terms h s.nonzero }

  -- a common divisor of the quotients, times d, is one of the numbers
  back : (e : ℤ) (xs : List ℤ) → DividesAll d xs → DividesAll e (all_divided d xs) → DividesAll (d *ℤ e) xs
  back e [] h k = tt
  back e (x ∷ xs) h k = (divides_along (exact_div d x z h.0) (mul_divides_mul d k.0), back e xs h.1 k.1)

  divided_by_one : (xs : List ℤ) → DividesAll (pos 1) xs
  divided_by_one [] = tt
  divided_by_one (x ∷ xs) = (one_divides x, divided_by_one xs)

  -- numbers divided by their greatest common divisor, or by its negative, have the greatest common divisor 1
  pub content_divided : (xs : List ℤ) → DividesAll d xs → Divides (content_of xs) d → content_of (all_divided d xs) ≡ pos 1
  content_divided xs h g =
      let one : IsContent (all_divided d xs) (pos 1) = record {
        not_negative = omega (arith, ints);
        divides = divided_by_one (all_divided d xs);
        greatest = λ e k. cancel_divides d z (divides_along (sym (mul_one d)) (divides_trans ((content_is xs).greatest (d *ℤ e) (back e xs h k)) g));
      } in
      content_unique (content_is (all_divided d xs)) one
