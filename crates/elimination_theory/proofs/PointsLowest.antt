-- A test point of the fields is in lowest terms: 1 is the greatest common divisor of all its numbers.
use Rattle.std.proofs.Common.{◌≡◌, ℕ, suc, ◌<◌, ◌/◌, List, [], ◌∷◌, ap, sym, subst, arith, unsigned_abs, int_div}
use Rattle.std.proofs.Math.IntN.{ℤ, pos, negsuc, ◌*ℤ◌}
use Rattle.std.specs.Prelude.{◌<ℤ◌, ◌≤ℤ◌}
use Rattle.std.proofs.lemmas.Int.{ints}
use Rattle.exact_numbers.specs.Divides.{Divides, content_of}
use Rattle.exact_numbers.specs.Division.{DividesAll}
use Rattle.exact_numbers.proofs.Ring.{mul_one}
use Rattle.exact_numbers.proofs.Order.{cancel_at_most, by_order}
use Rattle.exact_numbers.proofs.Divisibility.{mul_divides_mul, divides_along, divisor_at_most, zero_divides}
use Rattle.exact_numbers.proofs.LeastMultiple.{exact_div}
use Rattle.exact_numbers.proofs.Contents.{content_is}
use Rattle.logic_meaning.specs.Form.{Form, Term, scale, without, coefficients}
use Rattle.logic_meaning.specs.Atom.{form_of}
use Rattle.logic_meaning.specs.Atoms.{atoms_of}
use Rattle.logic_meaning.specs.FieldsPoints.{numbers_of, divisor_of, terms_over, form_over}
use Rattle.elimination_theory.specs.LowestPoints.{IsInLowestTerms, FieldPointsAreInLowestTerms}
use Rattle.elimination_theory.proofs.LowestTerms.{lowest, natural, all_divided}
use Rattle.elimination_theory.proofs.FieldsEach.{HoldsAt, at_all, far_out, field_points_have}

-- what divides the quotient by g divides, g times as large, the number
quotient_divides : (g h x : ℤ) → ¬ (g ≡ pos 0) → Divides g x → Divides h (int_div x g) → Divides (g *ℤ h) x
quotient_divides g h x n d e = divides_along (exact_div g x n d) (mul_divides_mul g e)

terms_divide : (g : ℕ) (h : ℤ) (ts : List Term) → ¬ (pos g ≡ pos 0) → DividesAll (pos g) (coefficients ts) → DividesAll h (coefficients (terms_over g ts)) → DividesAll (pos g *ℤ h) (coefficients ts)
terms_divide g h [] n d e = tt
terms_divide g h (t ∷ ts) n d e = (quotient_divides (pos g) h t.times n d.0 e.0, terms_divide g h ts n d.1 e.1)

all_divide : (g : ℕ) (h : ℤ) (e : Form) (d : ℕ) → ¬ (pos g ≡ pos 0) → DividesAll (pos g) (numbers_of e d) → DividesAll h (numbers_of (form_over g e) (d / g)) → DividesAll (pos g *ℤ h) (numbers_of e d)
unfolding form_over
all_divide g h e d n a b = (quotient_divides (pos g) h (pos d) n a.0 b.0, (quotient_divides (pos g) h e.constant n a.1.0 b.1.0, terms_divide g h e.terms n a.1.1 b.1.1))

-- a number from 0 on that is not 0 and at most 1
only_one : (h : ℤ) → pos 0 ≤ℤ h → ¬ (h ≡ pos 0) → h ≤ℤ pos 1 → h ≡ pos 1
only_one h p n l = by_order h (pos 0) (λ (k : h <ℤ pos 0). absurd (omega (arith, ints))) (λ e. absurd (n e)) (λ (k : pos 0 <ℤ h). omega (arith, ints))

content_is_one : (e : Form) (d : ℕ) → 0 < d → content_of (numbers_of (form_over (divisor_of e d) e) (d / divisor_of e d)) ≡ pos 1
content_is_one e d pd =
    let l = lowest e d pd in
    let c = content_is (numbers_of e d) in
    let k = content_is (numbers_of (form_over (divisor_of e d) e) (d / divisor_of e d)) in
    let h : ℤ = content_of (numbers_of (form_over (divisor_of e d) e) (d / divisor_of e d)) in
    let g : pos 0 <ℤ pos (divisor_of e d) = l.divisor_positive in
    let i : content_of (numbers_of e d) ≡ pos (divisor_of e d) = natural (content_of (numbers_of e d)) c.not_negative in
    let a = all_divided e d in
    let n : ¬ (pos (divisor_of e d) ≡ pos 0) = positive_not_zero (pos (divisor_of e d)) g in
    let b : Divides (pos (divisor_of e d) *ℤ h) (content_of (numbers_of e d)) = c.greatest (pos (divisor_of e d) *ℤ h) (all_divide (divisor_of e d) h e d n a k.divides) in
    let at_most : (pos (divisor_of e d) *ℤ h) ≤ℤ pos (divisor_of e d) = divisor_at_most g (divides_along i b) in
    let one : h ≤ℤ pos 1 = cancel_at_most (pos (divisor_of e d)) g (subst (λ z. (pos (divisor_of e d) *ℤ h) ≤ℤ z) (sym (mul_one (pos (divisor_of e d)))) at_most) in
    only_one h k.not_negative (λ z. positive_not_zero (pos (d / divisor_of e d)) l.below_positive (zero_divides (subst (λ y. Divides y (pos (d / divisor_of e d))) z k.divides.0))) one
  where
    positive_not_zero : (a : ℤ) → pos 0 <ℤ a → ¬ (a ≡ pos 0)
    positive_not_zero a p z = absurd (omega (arith, ints))

form_lowest : (e : Form) (d : ℕ) → 0 < d → divisor_of (form_over (divisor_of e d) e) (d / divisor_of e d) ≡ 1
form_lowest e d pd = ap unsigned_abs (content_is_one e d pd)

-- ---- the points of the lists

lowest_at : (e : Form) (d : ℕ) → 0 < d → HoldsAt IsInLowestTerms e d
lowest_at e d h = let l = form_lowest e d h in at_all IsInLowestTerms e d l l l

pub points_lowest : FieldPointsAreInLowestTerms
points_lowest side x f s h =
    field_points_have IsInLowestTerms side x (atoms_of f) (far_out IsInLowestTerms tt tt side)
    (λ a m n. (lowest_at (scale (negsuc 0) (without x (form_of a))) (suc n) (omega arith), lowest_at (without x (form_of a)) (suc n) (omega arith))) s h
