-- What is said of each atom of a formula, and which names stand in a formula.
use Rattle.std.specs.Prelude.{◌≡◌, ◌⊎◌}
use Rattle.logic_meaning.specs.Formula.{Formula, Formulas, Yes, No, One, Not, And, Or, Impl, Repl, Equiv, Ex, All, none, also}

module _ {A N : Type 0} (P : A → Type 0) where
  abbrev mutual
    -- each atom of the formula has P
    pub Every : Formula A N → Type 0
    Every Yes = Unit {0}
    Every No = Unit {0}
    Every (One a) = P a
    Every (Not f) = Every f
    Every (And fs) = EveryOf fs
    Every (Or fs) = EveryOf fs
    Every (Impl f g) = Every f × Every g
    Every (Repl f g) = Every f × Every g
    Every (Equiv f g) = Every f × Every g
    Every (Ex x f) = Every f
    Every (All x f) = Every f

    -- each atom of each member has P
    pub EveryOf : Formulas A N → Type 0
    EveryOf none = Unit {0}
    EveryOf (also f fs) = Every f × EveryOf fs

module _ {A N : Type 0} (mentions : A → N → Type 0) where
  abbrev mutual
    -- the name stands in an atom, outside the quantifiers of that name
    pub Free : Formula A N → N → Type 0
    Free Yes x = ⊥
    Free No x = ⊥
    Free (One a) x = mentions a x
    Free (Not f) x = Free f x
    Free (And fs) x = FreeInSome fs x
    Free (Or fs) x = FreeInSome fs x
    Free (Impl f g) x = Free f x ⊎ Free g x
    Free (Repl f g) x = Free f x ⊎ Free g x
    Free (Equiv f g) x = Free f x ⊎ Free g x
    Free (Ex y f) x = ¬ (y ≡ x) × Free f x
    Free (All y f) x = ¬ (y ≡ x) × Free f x

    -- free in some member
    pub FreeInSome : Formulas A N → N → Type 0
    FreeInSome none x = ⊥
    FreeInSome (also f fs) x = Free f x ⊎ FreeInSome fs x

module _ {A N : Type 0} (K : N → Type 0) where
  abbrev mutual
    -- each quantified name has K
    pub EveryBound : Formula A N → Type 0
    EveryBound Yes = Unit {0}
    EveryBound No = Unit {0}
    EveryBound (One a) = Unit {0}
    EveryBound (Not f) = EveryBound f
    EveryBound (And fs) = EveryBoundOf fs
    EveryBound (Or fs) = EveryBoundOf fs
    EveryBound (Impl f g) = EveryBound f × EveryBound g
    EveryBound (Repl f g) = EveryBound f × EveryBound g
    EveryBound (Equiv f g) = EveryBound f × EveryBound g
    EveryBound (Ex x f) = K x × EveryBound f
    EveryBound (All x f) = K x × EveryBound f

    -- each quantified name of each member has K
    pub EveryBoundOf : Formulas A N → Type 0
    EveryBoundOf none = Unit {0}
    EveryBoundOf (also f fs) = EveryBound f × EveryBoundOf fs
