-- a * k + t compared with 0, as k runs down over the whole numbers.
use Rattle.std.proofs.Common.{◌≡◌, ℕ, suc, zero, ◌/◌, ◌<◌, ℤ, pos, negsuc, ◌+ℤ◌, ◌-ℤ◌, ◌*ℤ◌, neg_ℤ, ◌≤ℤ◌, ◌<ℤ◌, ◌⊎◌, ◌↔◌, arith, inl, inr, subst, ap, unsigned_abs}
use Rattle.std.proofs.lemmas.Int.{ints}
use Rattle.exact_numbers.proofs.Ring.{ring, zero_mul, mul_sub}
use Rattle.exact_numbers.proofs.Order.{at_most_mul}
use Rattle.logic_meaning.specs.Atom.{mirrored, Relation, Relates}
use Rattle.elimination_theory.proofs.MoreArithmetic.{at_least_neg_abs}
use Rattle.elimination_theory.proofs.IntegerRelation.{IsTrueBelow, Near, relates_move, relates_step, relates_below, line_up, line_down}

-- a * k + t relation 0
abbrev pub Compares : Relation → ℤ → ℤ → ℤ → Type 0
Compares r a t k = Relates r (a *ℤ k +ℤ t) (pos 0)

-- the same below all bounds
abbrev pub ComparesLow : Relation → ℤ → ℤ → Type 0
ComparesLow r (pos zero) t = Relates r t (pos 0)
ComparesLow r (pos (suc n)) t = IsTrueBelow r
ComparesLow r (negsuc n) t = IsTrueBelow (mirrored r)

-- c times n is l
pub record Factor (l n c : ℕ) : Type 0 where
  pub positive : pos 0 <ℤ pos c
  pub is : pos c *ℤ pos n ≡ pos l

-- l is a multiple of the coefficient, where that is not 0
abbrev pub Scales : ℕ → ℤ → Type 0
Scales l (pos zero) = Unit {0}
Scales l (pos (suc n)) = Factor l (suc n) (l / suc n)
Scales l (negsuc n) = Factor l (suc n) (l / suc n)

-- l * k is one of the d numbers next above the place where the comparison begins
abbrev pub ComparesNear : ℕ → ℕ → Relation → ℤ → ℤ → ℤ → Type 0
ComparesNear l d r (pos zero) t k = ⊥
ComparesNear l d r (pos (suc n)) t k = Near r (neg_ℤ (pos (l / suc n)) *ℤ t) d (pos l *ℤ k)
ComparesNear l d r (negsuc n) t k = Near (mirrored r) (pos (l / suc n) *ℤ t) d (pos l *ℤ k)

scaled_up : (r : Relation) (l n c : ℕ) (t k : ℤ) → Factor l n c → Compares r (pos n) t k ↔ Relates r (pos l *ℤ k) (neg_ℤ (pos c) *ℤ t)
scaled_up r l n c t k f = subst (λ (m : ℤ). Compares r (pos n) t k ↔ Relates r (m *ℤ k) (neg_ℤ (pos c) *ℤ t)) f.is (line_up r (pos c) (pos n) k t f.positive)

scaled_down : (r : Relation) (l n c : ℕ) (t k : ℤ) → Factor l n c → Compares r (neg_ℤ (pos n)) t k ↔ Relates (mirrored r) (pos l *ℤ k) (pos c *ℤ t)
scaled_down r l n c t k f = subst (λ (m : ℤ). Compares r (neg_ℤ (pos n)) t k ↔ Relates (mirrored r) (m *ℤ k) (pos c *ℤ t)) f.is (line_down r (pos c) (pos n) k t f.positive)

-- without the name the number does not matter
pub without_name : (r : Relation) (t k : ℤ) → Compares r (pos 0) t k ↔ Relates r t (pos 0)
without_name r t k =
    let z : pos 0 *ℤ k ≡ pos 0 = zero_mul k in
    (relates_move r _ _ _ _ (omega (arith, ints)), relates_move r _ _ _ _ (omega (arith, ints)))

step_is : (l d step : ℕ) (k : ℤ) → pos d ≡ pos l *ℤ pos step → pos l *ℤ k -ℤ pos d ≡ pos l *ℤ (k -ℤ pos step)
step_is l d step k e = let m = mul_sub (pos l) k (pos step) in omega (arith, ints)

-- a step down along l * k
step_by : (r : Relation) (l d step : ℕ) (v k : ℤ) → 0 < d → pos d ≡ pos l *ℤ pos step →
    Relates r (pos l *ℤ k) v → Relates r (pos l *ℤ (k -ℤ pos step)) v ⊎ Near r v d (pos l *ℤ k)
step_by r l d step v k positive e is =
    subst (λ (u : ℤ). Relates r u v ⊎ Near r v d (pos l *ℤ k)) (step_is l d step k e) (relates_step r v (pos l *ℤ k) d positive is)

-- true one step below, or near
pub compares_step : (r : Relation) (a t k : ℤ) (l d step : ℕ) → Scales l a → 0 < d → pos d ≡ pos l *ℤ pos step →
    Compares r a t k → Compares r a t (k -ℤ pos step) ⊎ ComparesNear l d r a t k
compares_step r (pos zero) t k l d step f positive e is = inl ((without_name r t (k -ℤ pos step)).1 ((without_name r t k).0 is))
compares_step r (pos (suc n)) t k l d step f positive e is =
    elim (step_by r l d step _ k positive e ((scaled_up r l (suc n) _ t k f).0 is)) [
      | inl lower ↦ inl ((scaled_up r l (suc n) _ t (k -ℤ pos step) f).1 lower)
      | inr near ↦ inr near
    ]
compares_step r (negsuc n) t k l d step f positive e is =
    elim (step_by (mirrored r) l d step _ k positive e ((scaled_down r l (suc n) _ t k f).0 is)) [
      | inl lower ↦ inl ((scaled_down r l (suc n) _ t (k -ℤ pos step) f).1 lower)
      | inr near ↦ inr near
    ]

-- so far down every positive multiple is below v
far_multiple : (l : ℕ) (v k : ℤ) → 0 < l → k <ℤ neg_ℤ (pos (unsigned_abs v)) → (pos l *ℤ k) <ℤ v
far_multiple l v k positive far =
    let low = at_least_neg_abs v in
    let p : pos 0 <ℤ pos l = omega (arith, ints) in
    let q : pos 0 ≤ℤ neg_ℤ k = omega (arith, ints) in
    let m = at_most_mul p q in
    let s : pos l *ℤ neg_ℤ k ≡ neg_ℤ (pos l *ℤ k) = simp ring (omega (arith, ints)) in
    omega (arith, ints)

-- far enough down the comparison is what it is below all bounds
pub compares_low : (r : Relation) (a t : ℤ) (l : ℕ) → Scales l a → 0 < l → (u : ℤ) × ((k : ℤ) → k <ℤ u → Compares r a t k ↔ ComparesLow r a t)
compares_low r (pos zero) t l f positive = (pos 0, λ k far. without_name r t k)
compares_low r (pos (suc n)) t l f positive = (
  neg_ℤ (pos (unsigned_abs (neg_ℤ (pos (l / suc n)) *ℤ t))),
  λ k far.
      let up = scaled_up r l (suc n) _ t k f in
      let low = relates_below r _ _ (far_multiple l (neg_ℤ (pos (l / suc n)) *ℤ t) k positive far) in
      (λ is. low.0 (up.0 is), λ is. up.1 (low.1 is)),
)
compares_low r (negsuc n) t l f positive = (
  neg_ℤ (pos (unsigned_abs (pos (l / suc n) *ℤ t))),
  λ k far.
      let down = scaled_down r l (suc n) _ t k f in
      let low = relates_below (mirrored r) _ _ (far_multiple l (pos (l / suc n) *ℤ t) k positive far) in
      (λ is. low.0 (down.0 is), λ is. down.1 (low.1 is)),
)

-- ---- congruences

-- n divides a * k + t
abbrev pub IsCongruent : ℕ → ℤ → ℤ → ℤ → Type 0
IsCongruent n a t k = (q : ℤ) × (a *ℤ k +ℤ t ≡ q *ℤ pos n)

congruent_is : (a t k s z q w n : ℤ) → a *ℤ s ≡ w *ℤ n → a *ℤ k +ℤ t ≡ q *ℤ n → a *ℤ (k +ℤ s *ℤ z) +ℤ t ≡ (q +ℤ w *ℤ z) *ℤ n
congruent_is a t k s z q w n e f =
    let g = simp ring at (ap (λ y. y *ℤ z) e) in
    simp ring (omega (arith, ints, g, f))

-- where n divides a times the step it stays, step by step
pub congruent_stays : (n : ℕ) (a t k z : ℤ) (step : ℕ) → (w : ℤ) × (a *ℤ pos step ≡ w *ℤ pos n) → IsCongruent n a t k → IsCongruent n a t (k +ℤ pos step *ℤ z)
congruent_stays n a t k z step (w, e) (q, f) = (q +ℤ w *ℤ z, congruent_is a t k (pos step) z q w (pos n) e f)

pub congruent_back : (n : ℕ) (a t k z : ℤ) (step : ℕ) → (w : ℤ) × (a *ℤ pos step ≡ w *ℤ pos n) → IsCongruent n a t (k +ℤ pos step *ℤ z) → IsCongruent n a t k
congruent_back n a t k z step fits is =
    subst (IsCongruent n a t) (back_is k (pos step) z) (congruent_stays n a t (k +ℤ pos step *ℤ z) (neg_ℤ z) step fits is)
  where
    back_is : (k s z : ℤ) → (k +ℤ s *ℤ z) +ℤ s *ℤ neg_ℤ z ≡ k
    back_is k s z = simp ring (omega (arith, ints))
