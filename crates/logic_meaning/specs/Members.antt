-- How many members the lists of a formula have.
use Rattle.logic_meaning.specs.Formula.{Formula, Formulas, Yes, No, One, Not, And, Or, Impl, Repl, Equiv, Ex, All, none, also}

module _ {A N : Type 0} where
  -- the list has two members at least
  abbrev pub AreTwo : Formulas A N → Type 0
  AreTwo none = ⊥
  AreTwo (also f none) = ⊥
  AreTwo (also f (also g fs)) = Unit {0}

  abbrev mutual
    -- each and and each or of the formula has two members at least
    pub HasTwoMembers : Formula A N → Type 0
    HasTwoMembers Yes = Unit {0}
    HasTwoMembers No = Unit {0}
    HasTwoMembers (One a) = Unit {0}
    HasTwoMembers (Not f) = HasTwoMembers f
    HasTwoMembers (And fs) = AreTwo fs × HaveTwoMembers fs
    HasTwoMembers (Or fs) = AreTwo fs × HaveTwoMembers fs
    HasTwoMembers (Impl f g) = HasTwoMembers f × HasTwoMembers g
    HasTwoMembers (Repl f g) = HasTwoMembers f × HasTwoMembers g
    HasTwoMembers (Equiv f g) = HasTwoMembers f × HasTwoMembers g
    HasTwoMembers (Ex x f) = HasTwoMembers f
    HasTwoMembers (All x f) = HasTwoMembers f

    -- the same of each formula of the list
    pub HaveTwoMembers : Formulas A N → Type 0
    HaveTwoMembers none = Unit {0}
    HaveTwoMembers (also f fs) = HasTwoMembers f × HaveTwoMembers fs
