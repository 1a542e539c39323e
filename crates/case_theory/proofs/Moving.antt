-- Points that differ in some names, and points with values put into them.
use Rattle.std.proofs.Common.{◌≡◌, ℕ, List, [], ◌∷◌, ap, sym, ◌∙◌, refl, subst, arith, nat_eq, unsigned_abs}
use Rattle.std.proofs.Math.IntN.{ℤ, pos, ◌*ℤ◌}
use Rattle.std.specs.Prelude.{◌<ℤ◌}
use Rattle.std.proofs.lemmas.Int.{ints}
use Rattle.exact_numbers.proofs.Ring.{mul_comm, mul_assoc, mul_left_comm}
use Rattle.exact_numbers.proofs.Order.{cancel_positive}
use Rattle.logic_meaning.specs.Context.{Context, Fields, Integers}
use Rattle.logic_meaning.specs.Point.{Point, Of, move}
use Rattle.formula_laws.specs.Points.{IsSamePoint}
use Rattle.case_theory.specs.Block.{DifferIn}
use Rattle.case_theory.proofs.Moved.{moved_there, moved_below}
use Rattle.logic_meaning.specs.Values.{Value, with_value, with_values}
use Rattle.sample_reference.proofs.SamePoints.{moved_same}

pub below_positive : (c : Context) (p : Point ℕ) → Of c p → pos 0 <ℤ pos p.below
below_positive Fields p o = omega (arith, ints)
below_positive Integers p o = let one : pos p.below ≡ pos 1 = ap pos o in omega (arith, ints)

along : (a b u m q : ℤ) → a *ℤ b ≡ u *ℤ q → (m *ℤ a) *ℤ b ≡ u *ℤ (q *ℤ m)
along a b u m q e = mul_assoc m a b ∙ ap (λ z. m *ℤ z) e ∙ mul_left_comm m u q ∙ ap (λ z. u *ℤ z) (mul_comm m q)

module _ (P : ℕ → Type 0) (p : Point ℕ) where
  pub differ_self : DifferIn P p p
  differ_self = record { elsewhere = λ y n. refl }

  -- moved at a name with P
  pub differ_moved : (q : Point ℕ) (x : ℕ) (k : ℤ) (m : ℕ) → P x → DifferIn P p q → DifferIn P p (move nat_eq q x k m)
  differ_moved q x k m h d = record {
    elsewhere = λ y n.
        let u : ¬ (x ≡ y) = λ e. n (subst P e h) in
        ap (λ z. z *ℤ pos p.below) (moved_there q x k m y u) ∙ along (q.at y) (pos p.below) (p.at y) (pos m) (pos q.below) (d.elsewhere y n)
        ∙ ap (λ z. p.at y *ℤ z) (sym (moved_below q x k m));
  }

  pub differ_same : (c : Context) (q r : Point ℕ) → Of c q → IsSamePoint q r → DifferIn P p q → DifferIn P p r
  differ_same c q r o same d = record { elsewhere = λ y n. through (q.at y) (pos q.below) (r.at y) (pos r.below) (p.at y) (pos p.below) (below_positive c q o) (same.same_value y) (d.elsewhere y n) }
    where
      through : (a b s e u v : ℤ) → pos 0 <ℤ b → a *ℤ e ≡ s *ℤ b → a *ℤ v ≡ u *ℤ b → s *ℤ v ≡ u *ℤ e
      through a b s e u v h f g =
          cancel_positive b h
          (mul_left_comm b s v ∙ sym (mul_assoc s b v) ∙ ap (λ z. z *ℤ v) (sym f) ∙ mul_assoc a e v ∙ ap (λ z. a *ℤ z) (mul_comm e v) ∙ sym (mul_assoc a v e) ∙ ap (λ z. z *ℤ e) g
          ∙ ap (λ z. z *ℤ e) (mul_comm u b) ∙ mul_assoc b u e)

-- the same values put into one point in two representations
pub with_same : (vs : List Value) (p q : Point ℕ) → IsSamePoint p q → IsSamePoint (with_values p vs) (with_values q vs)
with_same [] p q same = same
with_same (v ∷ vs) p q same = with_same vs (with_value p v) (with_value q v) (moved_same p q v.name v.at.numerator (unsigned_abs v.at.denominator) same)

pub same_self : (p : Point ℕ) → IsSamePoint p p
same_self p = record { same_value = λ y. refl }
