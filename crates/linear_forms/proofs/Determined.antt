-- A form is its coefficients and its constant; and a form without one name.
use Rattle.std.proofs.Common.{◌≡◌, ◌<◌, ℕ, zero, suc, Bool, true, false, List, [], ◌∷◌, Some, sym, ◌∙◌, subst, refl, arith, nat_eq, if◌then◌else◌}
use Rattle.std.proofs.Math.IntN.{ℤ, pos}
use Rattle.std.specs.Prelude.{slice_get}
use Rattle.logic_meaning.specs.Form.{Form, Term, multiple, others, coefficient, without}
use Rattle.logic_meaning.specs.Sorted.{AllAbove, IsRising}
use Rattle.logic_meaning.specs.Terms.{AllInLimit}
use Rattle.linear_forms.specs.Combinations.{IsLinear, IsCombination, IsQuotient}
use Rattle.formula_laws.proofs.Sorted.{here, elsewhere, sorted_determined, without_sorted}
use Rattle.exact_numbers.proofs.Order.{cancel}

-- ---- determined by the coefficients

pub same_form : (f g : Form) → IsLinear f → IsLinear g → ((x : ℕ) → coefficient x f ≡ coefficient x g) → f.constant ≡ g.constant → f ≡ g
same_form f g p q e c = sorted_determined f g p.sorted q.sorted e c

-- a combination is one form
pub same_combination : (a : ℤ) (f : Form) (b : ℤ) (g r s : Form) → IsCombination a f b g r → IsCombination a f b g s → r ≡ s
same_combination a f b g r s p q = same_form r s p.linear q.linear (λ x. p.coefficients_add x ∙ sym (q.coefficients_add x)) (p.constants_add ∙ sym q.constants_add)

-- and so is a quotient
pub same_quotient : (f : Form) (d : ℤ) (r s : Form) → ¬ (d ≡ pos 0) → IsQuotient f d r → IsQuotient f d s → r ≡ s
same_quotient f d r s n p q = same_form r s p.linear q.linear (λ x. cancel d n (p.coefficients_scale x ∙ sym (q.coefficients_scale x))) (cancel d n (p.constant_scales ∙ sym q.constant_scales))

-- ---- the coefficient beside a name

pub multiple_of_term : (ts : List Term) (i : ℕ) (t : Term) → IsRising ts → slice_get ts i ≡ Some t → multiple t.name ts ≡ t.times
multiple_of_term [] i t r e = absurd (cc)
multiple_of_term (s ∷ ts) zero t r e = let k : s ≡ t = cc in subst (λ (u : Term). multiple u.name (s ∷ ts) ≡ u.times) k (here s.name s ts refl r.0)
multiple_of_term (s ∷ ts) (suc i) t r e = elsewhere t.name s ts (λ (k : s.name ≡ t.name). let a = above_of s.name ts i t r.0 e in omega arith) ∙ multiple_of_term ts i t r.1 e
  where
    above_of : (x : ℕ) (ts : List Term) (i : ℕ) (t : Term) → AllAbove x ts → slice_get ts i ≡ Some t → x < t.name
    above_of x [] i t a e = absurd (cc)
    above_of x (s ∷ ts) zero t a e = let k : s ≡ t = cc in subst (λ (u : Term). x < u.name) k a.0
    above_of x (s ∷ ts) (suc i) t a e = above_of x ts i t a.1 e

pub coefficient_of_term : (f : Form) (i : ℕ) (t : Term) → IsLinear f → slice_get f.terms i ≡ Some t → coefficient t.name f ≡ t.times
unfolding coefficient
coefficient_of_term f i t p e = multiple_of_term f.terms i t p.sorted.rising e

-- ---- without one name

within_others : (x : ℕ) (ts : List Term) → AllInLimit ts → AllInLimit (others x ts)
within_others x [] w = tt
within_others x (t ∷ ts) w = go (nat_eq x t.name) (within_others x ts w.1)
  where
    go : (b : Bool) → AllInLimit (others x ts) → AllInLimit (if b then others x ts else t ∷ others x ts)
    go true h = h
    go false h = (w.0, h)

pub without_linear : (x : ℕ) (f : Form) → IsLinear f → IsLinear (without x f)
unfolding without
without_linear x f p = record { sorted = without_sorted x f p.sorted; within = within_others x f.terms p.within; constant_within = p.constant_within }
