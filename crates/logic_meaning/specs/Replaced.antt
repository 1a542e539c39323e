-- A formula with each atom replaced by a formula, and each quantified name by another name.
use Rattle.logic_meaning.specs.Formula.{Formula, Formulas, Yes, No, One, Not, And, Or, Impl, Repl, Equiv, Ex, All, none, also}

module _ {A B N M : Type 0} (by : A → Formula B M) (rename : N → M) where
  abbrev mutual
    -- f with each atom a replaced by the formula by a, and each quantified name renamed
    pub replaced : Formula A N → Formula B M
    replaced Yes = Yes
    replaced No = No
    replaced (One a) = by a
    replaced (Not f) = Not (replaced f)
    replaced (And fs) = And (all_replaced fs)
    replaced (Or fs) = Or (all_replaced fs)
    replaced (Impl f g) = Impl (replaced f) (replaced g)
    replaced (Repl f g) = Repl (replaced f) (replaced g)
    replaced (Equiv f g) = Equiv (replaced f) (replaced g)
    replaced (Ex x f) = Ex (rename x) (replaced f)
    replaced (All x f) = All (rename x) (replaced f)

    -- each member replaced
    pub all_replaced : Formulas A N → Formulas B M
    all_replaced none = none
    all_replaced (also f fs) = also (replaced f) (all_replaced fs)
