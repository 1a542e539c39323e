-- Whether a quantifier stands in a formula, as a test that computes.
use Rattle.std.specs.Prelude.{Bool, true, false, ◌||◌}
use Rattle.logic_meaning.specs.Formula.{Formula, Formulas, Yes, No, One, Not, And, Or, Impl, Repl, Equiv, Ex, All, none, also}

module _ {A N : Type 0} where
  abbrev mutual
    -- a quantifier stands in the formula
    pub has_quantifier : Formula A N → Bool
    has_quantifier Yes = false
    has_quantifier No = false
    has_quantifier (One a) = false
    has_quantifier (Not f) = has_quantifier f
    has_quantifier (And fs) = some_quantifier fs
    has_quantifier (Or fs) = some_quantifier fs
    has_quantifier (Impl f g) = has_quantifier f || has_quantifier g
    has_quantifier (Repl f g) = has_quantifier f || has_quantifier g
    has_quantifier (Equiv f g) = has_quantifier f || has_quantifier g
    has_quantifier (Ex x f) = true
    has_quantifier (All x f) = true

    -- a quantifier stands in some member
    pub some_quantifier : Formulas A N → Bool
    some_quantifier none = false
    some_quantifier (also f fs) = has_quantifier f || some_quantifier fs
