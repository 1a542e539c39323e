-- What is said of some atom of a formula, or of some quantified name.
use Rattle.std.specs.Prelude.{◌⊎◌}
use Rattle.logic_meaning.specs.Formula.{Formula, Formulas, Yes, No, One, Not, And, Or, Impl, Repl, Equiv, Ex, All, none, also}

module _ {A N : Type 0} (P : A → Type 0) (K : N → Type 0) where
  abbrev mutual
    -- some atom of the formula has P, or some quantified name has K
    pub Somewhere : Formula A N → Type 0
    Somewhere Yes = ⊥
    Somewhere No = ⊥
    Somewhere (One a) = P a
    Somewhere (Not f) = Somewhere f
    Somewhere (And fs) = SomewhereIn fs
    Somewhere (Or fs) = SomewhereIn fs
    Somewhere (Impl f g) = Somewhere f ⊎ Somewhere g
    Somewhere (Repl f g) = Somewhere f ⊎ Somewhere g
    Somewhere (Equiv f g) = Somewhere f ⊎ Somewhere g
    Somewhere (Ex x f) = K x ⊎ Somewhere f
    Somewhere (All x f) = K x ⊎ Somewhere f

    -- in some member
    pub SomewhereIn : Formulas A N → Type 0
    SomewhereIn none = ⊥
    SomewhereIn (also f fs) = Somewhere f ⊎ SomewhereIn fs

-- some atom of the formula has P
abbrev pub SomeAtom : {A N : Type 0} → (A → Type 0) → Formula A N → Type 0
SomeAtom P f = Somewhere P (λ x. ⊥) f
