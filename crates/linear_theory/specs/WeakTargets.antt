-- Targets as formulas: values far below, and weak relations.
use Rattle.std.specs.Prelude.{ℕ, ◌<◌, ℤ, List, [], ◌∷◌}
use Rattle.logic_meaning.specs.Point.{Point}
use Rattle.logic_meaning.specs.Formula.{Ex}
use Rattle.logic_meaning.specs.Atom.{Atom, Compare, Congruent, Relation, Equals, Differs, Below, AtMost, Above, AtLeast}
use Rattle.logic_meaning.specs.Tree.{Tree}
use Rattle.logic_meaning.specs.FieldsOrder.{IsLess}
use Rattle.logic_meaning.specs.Target.{TargetAt, IsLeast}

-- the relation is =, <= or >=
abbrev pub IsWeakRelation : Relation → Type 0
IsWeakRelation Equals = Unit {0}
IsWeakRelation Differs = ⊥
IsWeakRelation Below = ⊥
IsWeakRelation AtMost = Unit {0}
IsWeakRelation Above = ⊥
IsWeakRelation AtLeast = Unit {0}

abbrev pub IsWeak : Atom → Type 0
IsWeak (Compare r f) = IsWeakRelation r
IsWeak (Congruent holds n f) = ⊥

-- ex(x1, .. ex(xk, f)) for the names x1 to xk
abbrev pub exs : List ℕ → Tree → Tree
exs [] f = f
exs (x ∷ xs) f = Ex x (exs xs f)

-- Q k m holds of every fraction k/m below some u/w
abbrev pub FarBelow : (ℤ → ℕ → Type 0) → Type 0
FarBelow Q = (u : ℤ) × (w : ℕ) × 0 < w × ((k : ℤ) (m : ℕ) → 0 < m → IsLess k m u w → Q k m)

-- the formula is true at every small enough number
abbrev pub IsTrueFarBelow : ℕ → Tree → Point ℕ → Type 0
IsTrueFarBelow z f p = FarBelow (TargetAt z f p)

-- it is false there
abbrev pub IsFalseFarBelow : ℕ → Tree → Point ℕ → Type 0
IsFalseFarBelow z f p = FarBelow (λ k m. ¬ (TargetAt z f p k m))

-- where it is true somewhere and false at every small enough number, it has a least true value
abbrev pub HasLeast : ℕ → Tree → Point ℕ → Type 0
HasLeast z f p = IsFalseFarBelow z f p → (k : ℤ) (m : ℕ) → 0 < m → TargetAt z f p k m → (j : ℤ) × (n : ℕ) × 0 < n × IsLeast z f p j n
