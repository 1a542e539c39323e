-- Where a formula has a congruence, the points of the theory have the denominator 1.
use Rattle.std.specs.Prelude.{ℤ, pos, ◌<ℤ◌, unsigned_abs}
use Rattle.logic_meaning.specs.Context.{Context, IsDenominator}
use Rattle.logic_meaning.specs.Tree.{Tree}
use Rattle.formula_store.specs.Truths.{IsWholeWhereAsked}

-- a denominator of the theory is 1 where the formula has a congruence
abbrev pub IsWholeInTheory : Context → Tree → Type 0
IsWholeInTheory c f = (d : ℤ) → pos 0 <ℤ d → IsDenominator c (unsigned_abs d) → IsWholeWhereAsked f d
