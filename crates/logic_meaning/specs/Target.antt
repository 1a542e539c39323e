-- The values of a name at which a formula is true, over the ordered fields, and the least of them.
-- A value is a fraction k/m over the denominator of the point: the name's value is k / (m * below).
use Rattle.std.specs.Prelude.{ℕ, ◌<◌, ℤ, nat_eq}
use Rattle.logic_meaning.specs.Context.{Fields}
use Rattle.logic_meaning.specs.Point.{Point, move}
use Rattle.logic_meaning.specs.Tree.{Tree, TrueAt}
use Rattle.logic_meaning.specs.FieldsOrder.{IsLess}

-- ---- weak constraints

-- ---- the target

-- the formula is true where z is k/m
abbrev pub TargetAt : ℕ → Tree → Point ℕ → ℤ → ℕ → Type 0
TargetAt z f p k m = TrueAt Fields f (move nat_eq p z k m)

-- it is true nowhere
abbrev pub IsInfeasible : ℕ → Tree → Point ℕ → Type 0
IsInfeasible z f p = (k : ℤ) (m : ℕ) → 0 < m → ¬ (TargetAt z f p k m)

-- for every number it is true at a smaller one
abbrev pub IsUnbounded : ℕ → Tree → Point ℕ → Type 0
IsUnbounded z f p = (k : ℤ) (m : ℕ) → 0 < m → (j : ℤ) × (n : ℕ) × 0 < n × IsLess j n k m × TargetAt z f p j n

-- it is true at k/m, and at no smaller number
pub record IsLeast (z : ℕ) (f : Tree) (p : Point ℕ) (k : ℤ) (m : ℕ) : Type 0 where
  pub holds : TargetAt z f p k m
  pub least : (j : ℤ) (n : ℕ) → 0 < n → IsLess j n k m → ¬ (TargetAt z f p j n)

-- ---- far below
