-- Truth is the same at every representation of a rational point.
use Rattle.std.proofs.Common.{◌≡◌, ℕ, ◌*◌, Bool, true, false, ap, ap₂, sym, ◌∙◌, subst, refl, inl, inr, ⊎_elim, ◌↔◌, if◌then◌else◌}
use Rattle.std.proofs.Math.IntN.{ℤ, pos, ◌*ℤ◌}
use Rattle.std.proofs.Math.Path.{fun_ext}
use Rattle.std.proofs.Math.Nat.{mul-pos, mul_assoc, mul_right_comm}
use Rattle.exact_numbers.proofs.Ring.{mul_left_comm, mul_assoc as assoc_z}
use Rattle.logic_meaning.specs.Context.{Context, Fields, Integers, Allowed}
use Rattle.logic_meaning.specs.Point.{Point, move}
use Rattle.formula_laws.specs.Points.{finer}
use Rattle.logic_meaning.specs.Formula.{Formula, Formulas, Yes, No, One, Not, And, Or, Impl, Repl, Equiv, Ex, All, none, also}
use Rattle.logic_meaning.specs.Truth.{True, AllTrue, SomeTrue}
use Rattle.formula_laws.proofs.Values.{pos_mul}

pub allowed_mul : (c : Context) (m n : ℕ) → Allowed c m → Allowed c n → Allowed c (m * n)
allowed_mul Fields m n h k = mul-pos h k
allowed_mul Integers m n h k = ap₂ (λ a b. a * b) h k

-- two records with the same fields
pub point_same : {N : Type 0} (f g : N → ℤ) (a b : ℕ) → ((n : N) → f n ≡ g n) → a ≡ b → Path (Point N) (record { at = f; below = a }) (record { at = g; below = b })
point_same {N} f g a b e h = ap₂ (λ (u : N → ℤ) (v : ℕ). let r : Point N = record { at = u; below = v } in r) (fun_ext e) h

module _ {N : Type 0} (same : N → N → Bool) where
  -- a moved point made finer is the finer point moved
  pub finer_move : (p : Point N) (x : N) (k : ℤ) (m n : ℕ) → finer (move same p x k m) n ≡ move same (finer p n) x (pos n *ℤ k) m
  unfolding finer move
  finer_move p x k m n = point_same _ _ _ _ (λ y. go (same x y) (p.at y)) (mul_right_comm p.below m n)
    where
      go : (b : Bool) (a : ℤ) → pos n *ℤ (if b then k else pos m *ℤ a) ≡ (if b then pos n *ℤ k else pos m *ℤ (pos n *ℤ a))
      go true a = refl
      go false a = mul_left_comm (pos n) (pos m) a

  pub move_finer : (p : Point N) (x : N) (k : ℤ) (m n : ℕ) → move same (finer p n) x k m ≡ move same p x k (n * m)
  unfolding finer move
  move_finer p x k m n = point_same _ _ _ _ (λ y. go (same x y) (p.at y)) (mul_assoc p.below n m)
    where
      go : (b : Bool) (a : ℤ) → (if b then k else pos m *ℤ (pos n *ℤ a)) ≡ (if b then k else pos (n * m) *ℤ a)
      go true a = refl
      go false a = mul_left_comm (pos m) (pos n) a ∙ sym (ap (λ z. z *ℤ a) (pos_mul n m) ∙ assoc_z (pos n) (pos m) a)

-- atoms: each atom is true at a point exactly where it is at the same point over a finer denominator
module _ {A N : Type 0} (says : A → Point N → Type 0) (same : N → N → Bool) (c : Context)
    (atoms : (a : A) (p : Point N) (n : ℕ) → Allowed c n → says a p ↔ says a (finer p n)) where
  mutual
    pub truth_finer : (f : Formula A N) (p : Point N) (n : ℕ) → Allowed c n → True says (move same) c f p ↔ True says (move same) c f (finer p n)
    truth_finer Yes p n h = (λ t. t, λ t. t)
    truth_finer No p n h = (λ t. t, λ t. t)
    truth_finer (One a) p n h = atoms a p n h
    truth_finer (Not f) p n h = let i = truth_finer f p n h in (λ t u. t (i.1 u), λ t u. t (i.0 u))
    truth_finer (And fs) p n h = all_finer fs p n h
    truth_finer (Or fs) p n h = some_finer fs p n h
    truth_finer (Impl f g) p n h = let i = truth_finer f p n h in let j = truth_finer g p n h in (λ t u. j.0 (t (i.1 u)), λ t u. j.1 (t (i.0 u)))
    truth_finer (Repl f g) p n h = let i = truth_finer f p n h in let j = truth_finer g p n h in (λ t u. i.0 (t (j.1 u)), λ t u. i.1 (t (j.0 u)))
    truth_finer (Equiv f g) p n h =
        let i = truth_finer f p n h in let j = truth_finer g p n h in
        (λ t. (λ u. j.0 (t.0 (i.1 u)), λ u. i.0 (t.1 (j.1 u))), λ t. (λ u. j.1 (t.0 (i.0 u)), λ u. i.1 (t.1 (j.0 u))))
    truth_finer (Ex x f) p n h = (
      λ t. (pos n *ℤ t.0, t.1, t.2, subst (λ q. True says (move same) c f q) (finer_move same p x t.0 t.1 n) ((truth_finer f (move same p x t.0 t.1) n h).0 t.3)),
      λ t. (t.0, n * t.1, allowed_mul c n t.1 h t.2, subst (λ q. True says (move same) c f q) (move_finer same p x t.0 t.1 n) t.3),
    )
    truth_finer (All x f) p n h = (
      λ t k m a. subst (λ q. True says (move same) c f q) (sym (move_finer same p x k m n)) (t k (n * m) (allowed_mul c n m h a)),
      λ t k m a. (truth_finer f (move same p x k m) n h).1 (subst (λ q. True says (move same) c f q) (sym (finer_move same p x k m n)) (t (pos n *ℤ k) m a)),
    )

    all_finer : (fs : Formulas A N) (p : Point N) (n : ℕ) → Allowed c n → AllTrue says (move same) c fs p ↔ AllTrue says (move same) c fs (finer p n)
    all_finer none p n h = (λ t. t, λ t. t)
    all_finer (also f fs) p n h = let i = truth_finer f p n h in let j = all_finer fs p n h in (λ t. (i.0 t.0, j.0 t.1), λ t. (i.1 t.0, j.1 t.1))

    some_finer : (fs : Formulas A N) (p : Point N) (n : ℕ) → Allowed c n → SomeTrue says (move same) c fs p ↔ SomeTrue says (move same) c fs (finer p n)
    some_finer none p n h = (λ t. t, λ t. t)
    some_finer (also f fs) p n h =
        let i = truth_finer f p n h in let j = some_finer fs p n h in
        (⊎_elim (λ t. inl (i.0 t)) (λ t. inr (j.0 t)), ⊎_elim (λ t. inl (i.1 t)) (λ t. inr (j.1 t)))
