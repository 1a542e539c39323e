-- Trees without words for implication, and in negation normal form.
use Rattle.std.specs.Prelude.{Bool, true, false}
use Rattle.logic_meaning.specs.Formula.{Formula, Formulas, Yes, No, One, Not, And, Or, Impl, Repl, Equiv, Ex, All, none, also}
use Rattle.logic_meaning.specs.declared.quantifier.Quantifier.{Quantifier}
use Rattle.logic_meaning.specs.declared.quantifier.Quantifier.TheVariants.{Exists, ForAll}

-- what a negation makes of it
abbrev pub turned_quantifier : Bool → Quantifier → Quantifier
turned_quantifier false q = q
turned_quantifier true Exists = ForAll
turned_quantifier true ForAll = Exists

module _ {A N : Type 0} where
  -- a constant, or one atom
  abbrev pub IsAtomic : Formula A N → Type 0
  IsAtomic Yes = Unit {0}
  IsAtomic No = Unit {0}
  IsAtomic (One a) = Unit {0}
  IsAtomic f = ⊥

  abbrev mutual
    -- only and, or, atoms and constants stand in the formula
    pub IsPlain : Formula A N → Type 0
    IsPlain Yes = Unit {0}
    IsPlain No = Unit {0}
    IsPlain (One a) = Unit {0}
    IsPlain (Not f) = ⊥
    IsPlain (And fs) = ArePlain fs
    IsPlain (Or fs) = ArePlain fs
    IsPlain (Impl f g) = ⊥
    IsPlain (Repl f g) = ⊥
    IsPlain (Equiv f g) = ⊥
    IsPlain (Ex x f) = ⊥
    IsPlain (All x f) = ⊥

    pub ArePlain : Formulas A N → Type 0
    ArePlain none = Unit {0}
    ArePlain (also f fs) = IsPlain f × ArePlain fs

  abbrev mutual
    -- only and, or, quantifiers, atoms and constants stand in the formula
    pub IsNegationNormal : Formula A N → Type 0
    IsNegationNormal Yes = Unit {0}
    IsNegationNormal No = Unit {0}
    IsNegationNormal (One a) = Unit {0}
    IsNegationNormal (Not f) = ⊥
    IsNegationNormal (And fs) = AreNegationNormal fs
    IsNegationNormal (Or fs) = AreNegationNormal fs
    IsNegationNormal (Impl f g) = ⊥
    IsNegationNormal (Repl f g) = ⊥
    IsNegationNormal (Equiv f g) = ⊥
    IsNegationNormal (Ex x f) = IsNegationNormal f
    IsNegationNormal (All x f) = IsNegationNormal f

    pub AreNegationNormal : Formulas A N → Type 0
    AreNegationNormal none = Unit {0}
    AreNegationNormal (also f fs) = IsNegationNormal f × AreNegationNormal fs

-- the quantifier of the leading block, which is empty where the formula begins with none
abbrev pub leading : {A N : Type 0} → Formula A N → Quantifier
leading (All x f) = ForAll
leading _ = Exists
