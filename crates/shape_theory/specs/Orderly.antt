-- The formulas that are simplified.
use Rattle.std.specs.Prelude.{ℕ}
use Rattle.logic_meaning.specs.Formula.{Formula, Formulas, Yes, No, One, Not, And, Or, Impl, Repl, Equiv, Ex, All, none, also}
use Rattle.logic_meaning.specs.Members.{AreTwo}

module _ {A : Type 0} (P : A → Type 0) where
  abbrev mutual
    -- the formula is in negation normal form, its conjunctions and disjunctions have two members at least, each atom has P
    pub IsOrderly : Formula A ℕ → Type 0
    IsOrderly Yes = Unit {0}
    IsOrderly No = Unit {0}
    IsOrderly (One a) = P a
    IsOrderly (Not f) = ⊥
    IsOrderly (And fs) = AreTwo fs × AreOrderly fs
    IsOrderly (Or fs) = AreTwo fs × AreOrderly fs
    IsOrderly (Impl f g) = ⊥
    IsOrderly (Repl f g) = ⊥
    IsOrderly (Equiv f g) = ⊥
    IsOrderly (Ex x f) = IsOrderly f
    IsOrderly (All x f) = IsOrderly f

    pub AreOrderly : Formulas A ℕ → Type 0
    AreOrderly none = Unit {0}
    AreOrderly (also f fs) = IsOrderly f × AreOrderly fs
