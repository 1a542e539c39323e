-- Multiples of a form in lowest terms, and the form that they reduce to.
use Rattle.std.proofs.Common.{◌≡◌, List, [], ◌∷◌, ap, sym, ◌∙◌, subst, refl, arith}
use Rattle.std.proofs.Math.IntN.{ℤ, pos, ◌+ℤ◌, ◌*ℤ◌}
use Rattle.std.specs.Prelude.{◌<ℤ◌, int_div}
use Rattle.std.proofs.lemmas.Int.{ints}
use Rattle.exact_numbers.specs.Limit.{InLimit}
use Rattle.exact_numbers.specs.Divides.{Divides, content_of}
use Rattle.exact_numbers.specs.Division.{DividesAll}
use Rattle.exact_numbers.proofs.Ring.{mul_add, mul_assoc, mul_one}
use Rattle.exact_numbers.proofs.Contents.{content_is}
use Rattle.exact_numbers.proofs.Divisibility.{divides_both, divides_along, cancel_divides, mul_divides_mul}
use Rattle.logic_meaning.specs.Form.{Form, Term, coefficients, scaled, scale}
use Rattle.logic_meaning.specs.Combining.{AddWithin}
use Rattle.logic_meaning.specs.Reduction.{quotient, quotients}
use Rattle.linear_forms.proofs.Division.{quotient_within}
use Rattle.linear_forms.proofs.Reduced.{quotient_is}
use Rattle.language_meaning.specs.RationalForms.{RationalForm, numbers_of, lowest_form}
use Rattle.resolved_formulas.specs.LowestForms.{IsLowestForm}

pub not_zero : (k : ℤ) → pos 0 <ℤ k → ¬ (k ≡ pos 0)
not_zero k p e = omega (arith, ints)

-- a number is within the limit where a positive multiple is
pub factor_within : (k z n : ℤ) → pos 0 <ℤ k → n ≡ k *ℤ z → InLimit n → InLimit z
factor_within k z n p e h = quotient_within k z n (not_zero k p) (sym e) h

-- the numbers of a sum are within the limit where those of a multiple are
pub factors_within : (j a b k c f g n : ℤ) → pos 0 <ℤ j → k ≡ j *ℤ a → c ≡ j *ℤ b → n ≡ k *ℤ f → AddWithin n (c *ℤ g) → AddWithin (a *ℤ f) (b *ℤ g)
factors_within j a b k c f g n p ek ec en w =
    let x : n ≡ j *ℤ (a *ℤ f) = en ∙ ap (λ y. y *ℤ f) ek ∙ mul_assoc j a f in
    let y : c *ℤ g ≡ j *ℤ (b *ℤ g) = ap (λ z. z *ℤ g) ec ∙ mul_assoc j b g in
    let z : n +ℤ c *ℤ g ≡ j *ℤ (a *ℤ f +ℤ b *ℤ g) = (λ i. x i +ℤ y i) ∙ sym (mul_add j (a *ℤ f) (b *ℤ g)) in
    record { first = factor_within j (a *ℤ f) n p x w.first; second = factor_within j (b *ℤ g) (c *ℤ g) p y w.second; sum = factor_within j (a *ℤ f +ℤ b *ℤ g) (n +ℤ c *ℤ g) p z w.sum }

pub factors_sum : (j a b k c f g n m r : ℤ) → k ≡ j *ℤ a → c ≡ j *ℤ b → n ≡ k *ℤ f → m ≡ n +ℤ c *ℤ g → r ≡ a *ℤ f +ℤ b *ℤ g → m ≡ j *ℤ r
factors_sum j a b k c f g n m r ek ec en em er =
    let x : n ≡ j *ℤ (a *ℤ f) = en ∙ ap (λ y. y *ℤ f) ek ∙ mul_assoc j a f in
    let y : c *ℤ g ≡ j *ℤ (b *ℤ g) = ap (λ z. z *ℤ g) ec ∙ mul_assoc j b g in
    em ∙ (λ i. x i +ℤ y i) ∙ sym (mul_add j (a *ℤ f) (b *ℤ g)) ∙ ap (λ z. j *ℤ z) (sym er)

-- ---- a multiple in lowest terms

module _ (k : ℤ) (p : pos 0 <ℤ k) where
  all_multiples : (ts : List Term) → DividesAll k (coefficients (scaled k ts))
  all_multiples [] = tt
  all_multiples (t ∷ ts) = (record { quotient = t.times; exact = refl }, all_multiples ts)

  all_cancelled : (q : ℤ) (ts : List Term) → DividesAll (k *ℤ q) (coefficients (scaled k ts)) → DividesAll q (coefficients ts)
  all_cancelled q [] h = tt
  all_cancelled q (t ∷ ts) h = (cancel_divides k (not_zero k p) h.0, all_cancelled q ts h.1)

  -- the greatest common divisor of k times numbers that have no common divisor
  content_multiple : (d : ℤ) (f : Form) → content_of (d ∷ numbers_of f) ≡ pos 1 → content_of ((k *ℤ d) ∷ numbers_of (scale k f)) ≡ k
  unfolding scale
  content_multiple d f e =
      let ys = (k *ℤ d) ∷ (k *ℤ f.constant) ∷ coefficients (scaled k f.terms) in
      let c = content_is ys in
      let down : Divides k (content_of ys) = c.greatest k (record { quotient = d; exact = refl }, (record { quotient = f.constant; exact = refl }, all_multiples f.terms)) in
      let q = down.quotient in
      let a : DividesAll (k *ℤ q) ys = subst (λ z. DividesAll z ys) down.exact c.divides in
      let one : Divides q (pos 1) = subst (Divides q) e ((content_is (d ∷ numbers_of f)).greatest q (cancel_divides k (not_zero k p) a.0, (cancel_divides k (not_zero k p) a.1.0, all_cancelled q f.terms a.1.1))) in
      let up : Divides (content_of ys) k = subst (λ z. Divides z k) (sym down.exact) (divides_along (mul_one k) (mul_divides_mul k one)) in
      divides_both c.not_negative (omega (arith, ints)) up down

  back : (z : ℤ) → int_div (k *ℤ z) k ≡ z
  back z = sym (quotient_is k z (k *ℤ z) (not_zero k p) refl)

  terms_back : (ts : List Term) → quotients k (scaled k ts) ≡ ts
  terms_back [] = refl
  terms_back (t ∷ ts) = λ i. record { times = back t.times i; name = t.name } ∷ terms_back ts i

  pub lowest_multiple : (v : RationalForm) → IsLowestForm v → lowest_form (scale k v.form) (k *ℤ v.denominator) ≡ v
  unfolding lowest_form quotient scale
  lowest_multiple v l =
      let c = content_multiple v.denominator v.form l in
      (λ i. record { form = record { terms = quotients (c i) (scaled k v.form.terms); constant = int_div (k *ℤ v.form.constant) (c i) }; denominator = int_div (k *ℤ v.denominator) (c i) })
      ∙ (λ i. record { form = record { terms = terms_back v.form.terms i; constant = back v.form.constant i }; denominator = back v.denominator i })
