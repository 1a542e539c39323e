-- A block of ex, in which the order of the names does not matter.
use Rattle.std.specs.Prelude.{◌≡◌, ℕ, pos, ◌*ℤ◌, ◌↔◌, List, [], ◌∷◌}
use Rattle.logic_meaning.specs.Context.{Context}
use Rattle.logic_meaning.specs.Point.{Point, Of}
use Rattle.logic_meaning.specs.Formula.{Ex}
use Rattle.logic_meaning.specs.Some.{Among}
use Rattle.logic_meaning.specs.Tree.{Tree, TrueAt}

-- ex of each name, the first outermost
abbrev pub ex_all : List ℕ → Tree → Tree
ex_all [] f = f
ex_all (x ∷ xs) f = Ex x (ex_all xs f)

-- the name has the same value at the two points
abbrev pub SameValue : Point ℕ → Point ℕ → ℕ → Type 0
SameValue p q y = p.at y *ℤ pos q.below ≡ q.at y *ℤ pos p.below

-- the two points differ in names with P alone
pub record DifferIn (P : ℕ → Type 0) (p q : Point ℕ) : Type 0 where
  pub elsewhere : (y : ℕ) → ¬ (P y) → SameValue q p y

-- the formula is true at some point of the theory that differs from p in names with P alone
abbrev pub Somewhere : Context → (ℕ → Type 0) → Tree → Point ℕ → Type 0
Somewhere c P f p = (q : Point ℕ) × Of c q × DifferIn P p q × TrueAt c f q

-- A block is true exactly where its formula is true somewhere, whatever the order of its names.
abbrev pub BlockHasNoOrder : Context → Type 0
BlockHasNoOrder c = (xs : List ℕ) (f : Tree) (p : Point ℕ) → Of c p → TrueAt c (ex_all xs f) p ↔ Somewhere c (Among xs) f p
