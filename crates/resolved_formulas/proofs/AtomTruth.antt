-- The normal atom of a form has the truth of the comparison or congruence as it is written.
use Rattle.std.proofs.Common.{◌≡◌, ◌<◌, ◌⊎◌, ◌↔◌, inl, inr, ℕ, List, ap, sym, ◌∙◌, arith}
use Rattle.std.proofs.Math.IntN.{ℤ, pos, neg_ℤ, ◌+ℤ◌, ◌-ℤ◌, ◌*ℤ◌}
use Rattle.std.specs.Prelude.{◌<ℤ◌, unsigned_abs, Ok}
use Rattle.std.proofs.lemmas.Int.{ints}
use Rattle.exact_numbers.specs.Frac.{Frac, IsProper, SameValue, whole_frac, true_sum, negated}
use Rattle.exact_numbers.proofs.Ring.{ring, mul_one, one_mul}
use Rattle.exact_numbers.proofs.Order.{mul_positive, cancel_positive}
use Rattle.exact_numbers.proofs.Divisibility.{abs_sign, sign_abs}
use Rattle.logic_meaning.specs.Context.{Context}
use Rattle.logic_meaning.specs.Point.{Point}
use Rattle.logic_meaning.specs.Atom.{Relates}
use Rattle.logic_meaning.specs.Form as form
use Rattle.logic_meaning.specs.Atom as meaning
use Rattle.formula_laws.proofs.Relations.{relates_along, relates_zero_mul, relates_difference}
use Rattle.normal_atoms.proofs.Relations.{chain, back}
use Rattle.language_meaning.specs.Trees.{TermTree}
use Rattle.language_meaning.specs.Value.{NamedPoint, HasName, value, IsCongruent}
use Rattle.language_meaning.specs.FractionRule.{◌>>=◌}
use Rattle.language_meaning.specs.RationalForms.{RationalForm, formed, formed_difference, sum_of_forms, opposite_form}
use Rattle.resolved_formulas.specs.ResolvedLaws.{Numbered}
use Rattle.resolved_formulas.proofs.RuleLaw.{bind_ok}
use Rattle.resolved_formulas.proofs.FormSteps.{Stands, plus_stands, opposite_stands}
use Rattle.resolved_formulas.proofs.FormValues.{form_stands, below_positive}

-- the form of a difference
pub difference_stands : (c : Context) (number : List ℕ → ℕ) (K : List ℕ → Type 0) (s t : TermTree) (d : RationalForm) (p : NamedPoint) (q : Point ℕ) → 0 < p.below → Numbered number K p q
    → ((x : List ℕ) → HasName s x ⊎ HasName t x → K x) → formed_difference c number s t ≡ Ok d → Stands q d (true_sum (value s p) (negated (value t p)))
difference_stands c number K s t d p q h n k e =
    let a = bind_ok (formed c number s) (λ v. formed c number t >>= λ w. sum_of_forms v (opposite_form w)) d e in
    let b = bind_ok (formed c number t) (λ w. sum_of_forms a.0 (opposite_form w)) d a.2 in
    plus_stands q (below_positive p q h n.same_below) a.0 (opposite_form b.0) d (value s p) (negated (value t p))
    (form_stands c number K s a.0 p q h n (λ x m. k x (inl m)) a.1) (opposite_stands q b.0 (value t p) (form_stands c number K t b.0 p q h n (λ x m. k x (inr m)) b.1)) b.2

crossed_difference : (n m a b c d : ℤ) → n *ℤ (b *ℤ d) ≡ (a *ℤ d +ℤ neg_ℤ c *ℤ b) *ℤ m → m *ℤ (a *ℤ d -ℤ c *ℤ b) ≡ (b *ℤ d) *ℤ n
crossed_difference n m a b c d e = simp ring (omega (arith, ints, simp ring at e))

-- the form compares with 0 as the two values compare
pub comparison_truth : (r : meaning.Relation) (d : RationalForm) (v w : Frac) (q : Point ℕ) → pos 0 <ℤ pos q.below → IsProper v → IsProper w → Stands q d (true_sum v (negated w))
    → Relates r (v.numerator *ℤ w.denominator) (w.numerator *ℤ v.denominator) ↔ Relates r (form.value d.form q) (pos 0)
comparison_truth r d v w q h pv pw s =
    let n = form.value d.form q in let m = d.denominator *ℤ pos q.below in
    let x = v.numerator *ℤ w.denominator in let y = w.numerator *ℤ v.denominator in
    let k = v.denominator *ℤ w.denominator in
    let e = crossed_difference n m v.numerator v.denominator w.numerator w.denominator s.same in
    chain (back (relates_difference r x y))
    (chain (relates_zero_mul r m (x -ℤ y) (mul_positive s.positive h))
    (chain (relates_along r (pos 0) e) (back (relates_zero_mul r k n (mul_positive pv pw)))))

-- ---- congruences

ones : (n a b : ℤ) → a ≡ pos 1 → b ≡ pos 1 → n *ℤ (a *ℤ b) ≡ n
ones n a b e f = ap (λ x. n *ℤ (x *ℤ b)) e ∙ ap (λ y. n *ℤ (pos 1 *ℤ y)) f ∙ simp mul_one

-- f * k stands for n, and m for a constant a over 1 with a * b ≡ m
multiple_of : (f n k b m a z : ℤ) → pos 0 <ℤ (k *ℤ b) → f *ℤ k ≡ n → a *ℤ b ≡ m → n *ℤ b ≡ (z *ℤ m) *ℤ k → f ≡ z *ℤ a
multiple_of f n k b m a z h e g i = cancel_positive (k *ℤ b) h (both f n k b m a z e g i)
  where
    both : (f n k b m a z : ℤ) → f *ℤ k ≡ n → a *ℤ b ≡ m → n *ℤ b ≡ (z *ℤ m) *ℤ k → (k *ℤ b) *ℤ f ≡ (k *ℤ b) *ℤ (z *ℤ a)
    both f n k b m a z e g i =
        let p = simp ring at (ap (λ t. t *ℤ b) e) in
        let q = simp ring at (ap (λ t. t *ℤ (z *ℤ k)) g) in
        let r = simp ring at i in
        simp ring (omega (arith, ints, p, q, r))

from_multiple : (f n k b m a z : ℤ) → f *ℤ k ≡ n → a *ℤ b ≡ m → f ≡ z *ℤ a → n *ℤ b ≡ (z *ℤ m) *ℤ k
from_multiple f n k b m a z e g i =
    let p = simp ring at (ap (λ t. t *ℤ b) e) in
    let q = simp ring at (ap (λ t. t *ℤ (z *ℤ k)) g) in
    let r = simp ring at (ap (λ t. t *ℤ (b *ℤ k)) i) in
    simp ring (omega (arith, ints, p, q, r))

by_divisor : (f z a d s : ℤ) → f ≡ z *ℤ a → a ≡ d *ℤ s → f ≡ (z *ℤ s) *ℤ (d *ℤ pos 1)
by_divisor f z a d s e g = e ∙ ap (λ t. z *ℤ t) g ∙ simp (mul_one, ring)

to_divisor : (f z a d s : ℤ) → f ≡ z *ℤ (d *ℤ pos 1) → d ≡ a *ℤ s → f ≡ (z *ℤ s) *ℤ a
to_divisor f z a d s e g = e ∙ ap (λ t. z *ℤ (t *ℤ pos 1)) g ∙ simp (mul_one, ring)

-- over the integers the form is a multiple of the modulus where the values are congruent
pub congruence_truth : (d : RationalForm) (a : ℤ) (v w m : Frac) (q : Point ℕ) → q.below ≡ 1 → d.denominator ≡ pos 1 → IsProper v → IsProper w → IsProper m
    → Stands q d (true_sum v (negated w)) → SameValue (whole_frac a) m
    → IsCongruent v w m ↔ meaning.IsMultiple (unsigned_abs a) d.form q
congruence_truth d a v w m q h one pv pw pm s e =
    let f = form.value d.form q in
    let k = v.denominator *ℤ w.denominator in
    let n = v.numerator *ℤ w.denominator +ℤ neg_ℤ w.numerator *ℤ v.denominator in
    let b = m.denominator in
    let below : pos q.below ≡ pos 1 = ap pos h in
    let first : f *ℤ k ≡ n = s.same ∙ ones n d.denominator (pos q.below) one below in
    let second : a *ℤ b ≡ m.numerator = e ∙ mul_one m.numerator in
    let positive : pos 0 <ℤ (k *ℤ b) = mul_positive (mul_positive pv pw) pm in
    let down = abs_sign a in let up = sign_abs a in (
      λ c.
          let times : n *ℤ b ≡ (c.0 *ℤ m.numerator) *ℤ k = ap (λ t. n *ℤ t) (sym (one_mul b)) ∙ c.1 in
          let is : f ≡ c.0 *ℤ a = multiple_of f n k b m.numerator a c.0 positive first second times in
          (c.0 *ℤ down.quotient, by_divisor f c.0 a (pos (unsigned_abs a)) down.quotient is down.exact ∙ ap (λ t. (c.0 *ℤ down.quotient) *ℤ (pos (unsigned_abs a) *ℤ t)) (sym below)),
      λ c.
          let is : f ≡ (c.0 *ℤ up.quotient) *ℤ a = to_divisor f c.0 a (pos (unsigned_abs a)) up.quotient (c.1 ∙ ap (λ t. c.0 *ℤ (pos (unsigned_abs a) *ℤ t)) below) up.exact in
          (c.0 *ℤ up.quotient, ap (λ t. n *ℤ t) (one_mul b) ∙ from_multiple f n k b m.numerator a (c.0 *ℤ up.quotient) first second is),
    )
