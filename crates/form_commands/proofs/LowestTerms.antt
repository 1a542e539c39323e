-- A form over a denominator, divided by all that their numbers share: 1 divides them all, and no number above.
use Rattle.std.proofs.Common.{◌≡◌, ℕ, ◌<◌, ◌/◌, List, [], ◌∷◌, ap, sym, subst, arith, unsigned_abs, int_div}
use Rattle.std.proofs.Math.IntN.{ℤ, pos, ◌*ℤ◌}
use Rattle.std.specs.Prelude.{◌<ℤ◌, ◌≤ℤ◌}
use Rattle.std.proofs.lemmas.Int.{ints}
use Rattle.exact_numbers.specs.Divides.{Divides, content_of}
use Rattle.exact_numbers.specs.Division.{DividesAll}
use Rattle.exact_numbers.proofs.Ring.{mul_one}
use Rattle.exact_numbers.proofs.Order.{cancel_at_most, by_order}
use Rattle.exact_numbers.proofs.Divisibility.{mul_divides_mul, divides_along, divisor_at_most, zero_divides}
use Rattle.exact_numbers.proofs.LeastMultiple.{exact_div}
use Rattle.exact_numbers.proofs.Contents.{content_is}
use Rattle.logic_meaning.specs.Form.{Form, Term, coefficients}
use Rattle.logic_meaning.specs.FieldsPoints.{numbers_of, divisor_of, terms_over, form_over}
use Rattle.elimination_theory.proofs.LowestTerms.{lowest, natural, all_divided, divisor_not_zero}

-- what divides the quotient by g divides, g times as large, the number
quotient_divides : (g h x : ℤ) → ¬ (g ≡ pos 0) → Divides g x → Divides h (int_div x g) → Divides (g *ℤ h) x
quotient_divides g h x n d e = divides_along (exact_div g x n d) (mul_divides_mul g e)

terms_divide : (g : ℕ) (h : ℤ) (ts : List Term) → ¬ (pos g ≡ pos 0) → DividesAll (pos g) (coefficients ts) → DividesAll h (coefficients (terms_over g ts)) → DividesAll (pos g *ℤ h) (coefficients ts)
terms_divide g h [] n d e = tt
terms_divide g h (t ∷ ts) n d e = (quotient_divides (pos g) h t.times n d.0 e.0, terms_divide g h ts n d.1 e.1)

all_divide : (g : ℕ) (h : ℤ) (e : Form) (d : ℕ) → ¬ (pos g ≡ pos 0) → DividesAll (pos g) (numbers_of e d) → DividesAll h (numbers_of (form_over g e) (d / g)) → DividesAll (pos g *ℤ h) (numbers_of e d)
unfolding form_over
all_divide g h e d n a b = (quotient_divides (pos g) h (pos d) n a.0 b.0, (quotient_divides (pos g) h e.constant n a.1.0 b.1.0, terms_divide g h e.terms n a.1.1 b.1.1))

-- a number from 0 on that is not 0 and at most 1
only_one : (h : ℤ) → pos 0 ≤ℤ h → ¬ (h ≡ pos 0) → h ≤ℤ pos 1 → h ≡ pos 1
only_one h p n l = by_order h (pos 0) (λ (k : h <ℤ pos 0). absurd (omega (arith, ints))) (λ e. absurd (n e)) (λ (k : pos 0 <ℤ h). omega (arith, ints))

pub divided_lowest : (e : Form) (d : ℕ) → 0 < d → divisor_of (form_over (divisor_of e d) e) (d / divisor_of e d) ≡ 1
divided_lowest e d positive =
    let l = lowest e d positive in
    let g : ℤ = pos (divisor_of e d) in
    let rest = numbers_of (form_over (divisor_of e d) e) (d / divisor_of e d) in
    let h : ℤ = content_of rest in
    let all = content_is (numbers_of e d) in
    let left = content_is rest in
    let shared = all.greatest (g *ℤ h) (all_divide (divisor_of e d) h e d (divisor_not_zero e d positive) (all_divided e d) left.divides) in
    let at_most : (g *ℤ h) ≤ℤ g = divisor_at_most l.divisor_positive (divides_along (natural (content_of (numbers_of e d)) all.not_negative) shared) in
    let some : ¬ (h ≡ pos 0) = λ z. not_zero (pos (d / divisor_of e d)) l.below_positive (zero_divides (subst (λ y. Divides y (pos (d / divisor_of e d))) z left.divides.0)) in
    ap unsigned_abs (only_one h left.not_negative some (cancel_at_most g l.divisor_positive (subst (λ z. (g *ℤ h) ≤ℤ z) (sym (mul_one g)) at_most)))
  where
    not_zero : (a : ℤ) → pos 0 <ℤ a → ¬ (a ≡ pos 0)
    not_zero a p z = absurd (omega (arith, ints))
