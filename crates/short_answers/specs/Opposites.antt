-- Formulas that are true wherever others are not.
use Rattle.std.specs.Prelude.{ℕ, List}
use Rattle.logic_meaning.specs.Context.{Context}
use Rattle.logic_meaning.specs.Point.{Point, Of}
use Rattle.logic_meaning.specs.Some.{EachOf}
use Rattle.logic_meaning.specs.Tree.{Tree, TrueAt}

-- each of the formulas is true at the point
abbrev pub EachTrue : Context → List Tree → Point ℕ → Type 0
EachTrue c fs p = EachOf (λ f. TrueAt c f p) fs

-- each of the second formulas is true where each of the first is and f is not
abbrev pub StayTrueWithout : Context → Tree → List Tree → List Tree → Type 0
StayTrueWithout c f fs gs = (p : Point ℕ) → Of c p → EachTrue c fs p → ¬ (TrueAt c f p) → EachTrue c gs p
