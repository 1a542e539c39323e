-- When two points agree, and when they are one rational point.
use Rattle.std.specs.Prelude.{◌≡◌, ℕ, ◌*◌, ℤ, pos, ◌*ℤ◌}
use Rattle.logic_meaning.specs.Point.{Point}

-- the same rational point over a denominator factor times as large
unfoldable pub finer : {N : Type 0} → Point N → ℕ → Point N
finer p factor = record {
  at = λ name. pos factor *ℤ p.at name;
  below = p.below * factor;
}

-- the two points have one denominator, and the same number at each name with P
pub record AgreeOn {N : Type 0} (P : N → Type 0) (p q : Point N) : Type 0 where
  pub same_below : p.below ≡ q.below
  pub same_at : (x : N) → P x → p.at x ≡ q.at x

-- the two points are one rational point: each name has the same value in both
pub record IsSamePoint {N : Type 0} (p q : Point N) : Type 0 where
  pub same_value : (x : N) → p.at x *ℤ pos q.below ≡ q.at x *ℤ pos p.below
