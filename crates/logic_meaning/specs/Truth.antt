-- What formulas mean. Truth is a fact and not a test: ex and all range over infinitely many points.
use Rattle.std.specs.Prelude.{ℕ, ℤ, ◌⊎◌}
use Rattle.logic_meaning.specs.Context.{Context, Allowed}
use Rattle.logic_meaning.specs.Formula.{Formula, Formulas, Yes, No, One, Not, And, Or, Impl, Repl, Equiv, Ex, All, none, also}

-- says a p: the atom a is true at the point p. move p x k m: the same rational point over a denominator m times as
-- large, with x set to k.
module _ {A N P : Type 0} (says : A → P → Type 0) (move : P → N → ℤ → ℕ → P) (c : Context) where
  abbrev mutual
    -- the formula is true at the point
    pub True : Formula A N → P → Type 0
    True Yes p = Unit {0}
    True No p = ⊥
    True (One a) p = says a p
    True (Not f) p = ¬ (True f p)
    True (And fs) p = AllTrue fs p
    True (Or fs) p = SomeTrue fs p
    True (Impl f g) p = True f p → True g p
    True (Repl f g) p = True g p → True f p
    True (Equiv f g) p = (True f p → True g p) × (True g p → True f p)
    True (Ex x f) p = (k : ℤ) × (m : ℕ) × Allowed c m × True f (move p x k m)
    True (All x f) p = (k : ℤ) (m : ℕ) → Allowed c m → True f (move p x k m)

    -- each member is true
    pub AllTrue : Formulas A N → P → Type 0
    AllTrue none p = Unit {0}
    AllTrue (also f fs) p = True f p × AllTrue fs p

    -- some member is true
    pub SomeTrue : Formulas A N → P → Type 0
    SomeTrue none p = ⊥
    SomeTrue (also f fs) p = True f p ⊎ SomeTrue fs p
