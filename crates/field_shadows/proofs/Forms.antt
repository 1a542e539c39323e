-- Bounds as rows, sums in which a name cancels, and atoms without a name at a moved point.
use Rattle.std.proofs.Common.{◌≡◌, ℕ, ◌<◌, Bool, true, false, List, [], ◌∷◌, ap, ◌∙◌, arith, ◌↔◌, nat_eq}
use Rattle.std.proofs.Math.IntN.{ℤ, pos, negsuc, ◌+ℤ◌, ◌*ℤ◌}
use Rattle.std.specs.Prelude.{◌<ℤ◌, ◌≤ℤ◌}
use Rattle.std.proofs.lemmas.Int.{ints}
use Rattle.exact_numbers.proofs.Ring.{mul_zero}
use Rattle.exact_numbers.proofs.Order.{by_zero}
use Rattle.logic_meaning.specs.Context.{Fields}
use Rattle.logic_meaning.specs.Point.{Point, move}
use Rattle.logic_meaning.specs.Form.{Form, value, coefficient, scale}
use Rattle.logic_meaning.specs.Some.{SomeOf, EachOf}
use Rattle.logic_meaning.specs.Atom.{Atom, Compare, Congruent, Says, Mentions, form_of}
use Rattle.logic_meaning.specs.NormalForm.{IsNormal}
use Rattle.logic_meaning.specs.Rows.{Row}
use Rattle.linear_theory.specs.RowsHold.{Holds}
use Rattle.formula_laws.proofs.Coefficients.{coefficient_scale}
use Rattle.elimination_theory.proofs.FieldsLine.{negated_value, comparison_still}
use Rattle.case_theory.specs.PutThrough.{AreTrue}
use Rattle.field_shadows.specs.declared.hold.Bound.{Bound}
use Rattle.field_shadows.specs.Signed.{turned_by, IsCancelled}
use Rattle.field_shadows.specs.Holds.{bound_relation, form_of_bound, atom_of_bound}
use Rattle.field_shadows.specs.Rest.{AreTrueWithout}

-- ---- bounds

-- the form of a bound, as a row
abbrev pub row_of : Bound → Row
row_of b = record { form = form_of_bound b; strict = b.strict; multipliers = record { terms = []; constant = pos 0 } }

says_turned : (t s : Bool) (f : Form) (q : Point ℕ) → Says (Compare (bound_relation t s) f) q ↔ Holds s (value (turned_by t f) q)
says_turned false true f q = (λ h. h, λ h. h)
says_turned false false f q = (λ h. h, λ h. h)
says_turned true true f q = let e = negated_value f q in (λ (h : pos 0 <ℤ value f q). omega (arith, ints), λ (h : value (scale (negsuc 0) f) q <ℤ pos 0). omega (arith, ints))
says_turned true false f q = let e = negated_value f q in (λ (h : pos 0 ≤ℤ value f q). omega (arith, ints), λ (h : value (scale (negsuc 0) f) q ≤ℤ pos 0). omega (arith, ints))

-- the atom is true where the row holds
pub says_bound : (b : Bound) (q : Point ℕ) → Says (atom_of_bound b) q ↔ Holds b.strict (value (form_of_bound b) q)
says_bound b q = says_turned b.form.turned b.strict b.form.form.now q

named_turned : (t : Bool) (f : Form) (y : ℕ) → ¬ (coefficient y (turned_by t f) ≡ pos 0) → ¬ (coefficient y f ≡ pos 0)
named_turned false f y n = n
named_turned true f y n = λ e. n (coefficient_scale y (negsuc 0) f ∙ ap (λ z. negsuc 0 *ℤ z) e)

pub named_bound : (b : Bound) (y : ℕ) → ¬ (coefficient y (form_of_bound b) ≡ pos 0) → Mentions (atom_of_bound b) y
named_bound b y n = named_turned b.form.turned b.form.form.now y n

-- ---- names

-- a name of the sum is another than x, and stands in one of the two
pub cancelled_names : (x : ℕ) (f g h : Form) → IsCancelled x f g h → (us : List Atom) → ((y : ℕ) → ¬ (coefficient y f ≡ pos 0) → SomeOf (λ (u : Atom). Mentions u y) us) →
    ((y : ℕ) → ¬ (coefficient y g ≡ pos 0) → SomeOf (λ (u : Atom). Mentions u y) us) → (y : ℕ) → ¬ (coefficient y h ≡ pos 0) → ¬ (y ≡ x) × SomeOf (λ (u : Atom). Mentions u y) us
cancelled_names x f g h c us one other y n = (
  λ e. n (ap (λ z. coefficient z h) e ∙ c.gone),
  by_zero (coefficient y f)
      (λ e.
      by_zero (coefficient y g)
      (λ d. absurd (n (c.coefficients y ∙ ap (λ z. c.times *ℤ z +ℤ c.by *ℤ coefficient y g) e ∙ ap (λ z. c.times *ℤ pos 0 +ℤ c.by *ℤ z) d ∙ nothing c.times c.by)))
      (other y))
      (one y),
)
  where
    nothing : (t b : ℤ) → t *ℤ pos 0 +ℤ b *ℤ pos 0 ≡ pos 0
    nothing t b = let i = mul_zero t in let j = mul_zero b in omega (arith, ints)

-- ---- a moved point

-- an atom of the fields without the name keeps its truth
pub still : (u : Atom) → IsNormal Fields u → (x : ℕ) (p : Point ℕ) (k : ℤ) (m : ℕ) → 0 < m → coefficient x (form_of u) ≡ pos 0 → Says u (move nat_eq p x k m) ↔ Says u p
still (Compare r f) n x p k m pm e = let h : pos 0 <ℤ pos m = omega (arith, ints) in comparison_still r f p x k m e h
still (Congruent b j f) n x p k m pm e = absurd n

pub without_true : (us : List Atom) → EachOf (IsNormal Fields) us → (x : ℕ) (p : Point ℕ) (k : ℤ) (m : ℕ) → 0 < m → AreTrue us (move nat_eq p x k m) → AreTrueWithout x us p
without_true [] n x p k m pm h = tt
without_true (u ∷ us) n x p k m pm h = (λ e. (still u n.0 x p k m pm e).0 h.0, without_true us n.1 x p k m pm h.1)
