-- What is proved of least values, as statements that the functions of this crate promise.
use Rattle.std.specs.Prelude.{◌≡◌, ℕ, ◌<◌, ℤ, ◌⊎◌, List}
use Rattle.logic_meaning.specs.Context.{Fields}
use Rattle.logic_meaning.specs.Point.{Point, Of}
use Rattle.logic_meaning.specs.Shape.{IsQuantifierFree}
use Rattle.logic_meaning.specs.Plain.{IsPlain}
use Rattle.logic_meaning.specs.Every.{Every}
use Rattle.logic_meaning.specs.Tree.{Tree}
use Rattle.formula_laws.specs.Equivalence.{InContext, Equivalent}
use Rattle.logic_meaning.specs.Values.{origin}
use Rattle.logic_meaning.specs.Target.{IsInfeasible, IsUnbounded, IsLeast}
use Rattle.linear_theory.specs.WeakTargets.{IsWeak, exs, HasLeast}
use Rattle.linear_theory.specs.Answer.{Found, least_of, IsAnswer}

-- g is equivalent to f over the ordered fields, and is built by and and or alone from weak constraints
pub record IsWeakEquivalent (f g : Tree) : Type 0 where
  pub is_plain : IsPlain g
  pub weak : Every IsWeak g
  pub equivalent : Equivalent Fields f g

-- Weak constraints stay weak where names are eliminated.
abbrev pub WeakStaysWeak : Type 0
WeakStaysWeak = (xs : List ℕ) (f : Tree) → IsPlain f → Every IsWeak f → (g : Tree) × IsWeakEquivalent (exs xs f) g

-- Under weak constraints a target is infeasible, or unbounded, or has a least value.
abbrev pub WeakTargetsHaveLeast : Type 0
WeakTargetsHaveLeast = (z : ℕ) (xs : List ℕ) (f : Tree) (p : Point ℕ) → IsPlain f → Every IsWeak f → Of Fields p →
    IsInfeasible z (exs xs f) p ⊎ (IsUnbounded z (exs xs f) p ⊎ ((k : ℤ) × (m : ℕ) × 0 < m × IsLeast z (exs xs f) p k m))

-- So it has a least value wherever it is feasible and not unbounded.
abbrev pub WeakTargetsSuit : Type 0
WeakTargetsSuit = (z : ℕ) (xs : List ℕ) (f : Tree) (p : Point ℕ) → IsPlain f → Every IsWeak f → Of Fields p → HasLeast z (exs xs f) p

-- The least value is found wherever there is one: of every formula without quantifiers that has a least true value wherever it is
-- true somewhere and false at every small enough number.
abbrev pub LeastIsFound : Type 0
LeastIsFound = (z : ℕ) (f : Tree) → IsQuantifierFree f → InContext Fields f → HasLeast z f origin → IsAnswer z f (least_of z f)

-- So is the least value of a target under weak constraints, from any equivalent formula without quantifiers.
abbrev pub TargetIsFound : Type 0
TargetIsFound = (z : ℕ) (xs : List ℕ) (f g : Tree) → IsPlain f → Every IsWeak f → IsQuantifierFree g → InContext Fields g → Equivalent Fields (exs xs f) g → IsAnswer z (exs xs f) (least_of z g)

-- No formula has two answers: each is given exactly where it holds.
abbrev pub AnswersExclude : Type 0
AnswersExclude = (z : ℕ) (f : Tree) (r s : Found) → IsAnswer z f r → IsAnswer z f s → r ≡ s
