-- The truth of trees is the same at every representation of a rational point.
use Rattle.std.proofs.Common.{◌≡◌, ℕ, ◌*◌, ap, sym, ◌∙◌, subst, refl, arith, ◌↔◌, nat_eq, true, false}
use Rattle.std.proofs.Math.IntN.{ℤ, pos, ◌*ℤ◌}
use Rattle.std.specs.Prelude.{◌<ℤ◌}
use Rattle.std.proofs.lemmas.Int.{ints}
use Rattle.exact_numbers.proofs.Ring.{ring, mul_comm}
use Rattle.exact_numbers.proofs.Order.{cancel_positive}
use Rattle.logic_meaning.specs.Context.{Context, Fields, Integers, Allowed}
use Rattle.logic_meaning.specs.Point.{Point, Of}
use Rattle.formula_laws.specs.Points.{finer, IsSamePoint}
use Rattle.logic_meaning.specs.Form.{Form, value}
use Rattle.logic_meaning.specs.Atom.{Atom, Compare, Congruent, Says, Relates, IsMultiple}
use Rattle.logic_meaning.specs.Tree.{Tree, TrueAt}
use Rattle.formula_laws.proofs.Values.{value_finer, pos_mul}
use Rattle.formula_laws.proofs.Relations.{relates_zero_mul}
use Rattle.formula_laws.proofs.SamePoint.{truth_finer, point_same}

pub allowed_positive : (c : Context) (m : ℕ) → Allowed c m → pos 0 <ℤ pos m
allowed_positive Fields m h = omega (arith, ints)
allowed_positive Integers m h = omega (arith, ints)

below_finer : (p : Point ℕ) (n : ℕ) → (finer p n).below ≡ p.below * n
unfolding finer
below_finer p n = refl

stretch : (n v q m b bn : ℤ) → v ≡ q *ℤ (m *ℤ b) → bn ≡ b *ℤ n → n *ℤ v ≡ q *ℤ (m *ℤ bn)
stretch n v q m b bn e f =
    let g = ap (λ z. n *ℤ z) e in
    let h = simp ring at (ap (λ z. q *ℤ (m *ℤ z)) f) in
    omega (arith, ints, g, h)

shrink : (n v q m b bn : ℤ) → pos 0 <ℤ n → n *ℤ v ≡ q *ℤ (m *ℤ bn) → bn ≡ b *ℤ n → v ≡ q *ℤ (m *ℤ b)
shrink n v q m b bn p e f =
    let h = simp ring at (ap (λ z. q *ℤ (m *ℤ z)) f) in
    let g : n *ℤ v ≡ n *ℤ (q *ℤ (m *ℤ b)) = omega (arith, ints, e, h) in
    cancel_positive n p g

below_mul : (p : Point ℕ) (n : ℕ) → pos (finer p n).below ≡ pos p.below *ℤ pos n
below_mul p n = ap pos (below_finer p n) ∙ pos_mul p.below n

divides_finer : (m : ℕ) (f : Form) (p : Point ℕ) (n : ℕ) → pos 0 <ℤ pos n → IsMultiple m f p ↔ IsMultiple m f (finer p n)
divides_finer m f p n h = (
  λ d. (d.0, value_finer f p n ∙ stretch (pos n) (value f p) d.0 (pos m) (pos p.below) (pos (finer p n).below) d.1 (below_mul p n)),
  λ d. (d.0, shrink (pos n) (value f p) d.0 (pos m) (pos p.below) (pos (finer p n).below) h (sym (value_finer f p n) ∙ d.1) (below_mul p n)),
)

pub atom_finer : (c : Context) (a : Atom) (p : Point ℕ) (n : ℕ) → Allowed c n → Says a p ↔ Says a (finer p n)
atom_finer c (Compare r f) p n h = subst (λ z. Relates r (value f p) (pos 0) ↔ Relates r z (pos 0)) (sym (value_finer f p n)) (relates_zero_mul r (pos n) (value f p) (allowed_positive c n h))
atom_finer c (Congruent true m f) p n h = divides_finer m f p n (allowed_positive c n h)
atom_finer c (Congruent false m f) p n h = let i = divides_finer m f p n (allowed_positive c n h) in (λ t u. t (i.1 u), λ t u. t (i.0 u))

pub tree_finer : (c : Context) (f : Tree) (p : Point ℕ) (n : ℕ) → Allowed c n → TrueAt c f p ↔ TrueAt c f (finer p n)
tree_finer c f p n h = truth_finer Says nat_eq c (atom_finer c) f p n h

finer_same : (p q : Point ℕ) → IsSamePoint p q → finer p q.below ≡ finer q p.below
unfolding finer
finer_same p q h = point_same _ _ _ _ (λ x. mul_comm (pos q.below) (p.at x) ∙ h.same_value x ∙ mul_comm (q.at x) (pos p.below)) (omega arith)

of_allowed : (c : Context) (p : Point ℕ) → Of c p → Allowed c p.below
of_allowed Fields p h = h
of_allowed Integers p h = h

-- one rational point in two representations: the same truth
pub tree_same_point : (c : Context) (f : Tree) (p q : Point ℕ) → Of c p → Of c q → IsSamePoint p q → TrueAt c f p ↔ TrueAt c f q
tree_same_point c f p q h k s =
    let i = tree_finer c f p q.below (of_allowed c q k) in
    let j = tree_finer c f q p.below (of_allowed c p h) in
    let e = finer_same p q s in
    (λ t. j.1 (subst (λ r. TrueAt c f r) e (i.0 t)), λ t. i.1 (subst (λ r. TrueAt c f r) (sym e) (j.0 t)))
