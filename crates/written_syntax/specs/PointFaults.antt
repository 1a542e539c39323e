-- Why entries mean no point.
use Rattle.std.specs.Prelude.{◌≡◌, ℤ, List, Bool, true}
use Rattle.logic_meaning.specs.Some.{SomeOf}
use Rattle.language_meaning.specs.declared.entries.PointEntry.{PointEntry}
use Rattle.written_syntax.specs.declared.point.PointFault.{PointFault}
use Rattle.written_syntax.specs.declared.point.PointFault.TheVariants.{Double, ZeroBelow, NotWhole, Overflow, Memory}
use Rattle.language_meaning.specs.Point.{NamesTwice, IsZeroBelow, IsBroken, PassesLimit, IsScaled}
use Rattle.exact_numbers.specs.Limit.{PastLimit}

-- no name stands twice, no denominator is 0 and, with whole, each value is a whole number
pub record IsChecked (es : List PointEntry) (whole : Bool) : Type 0 where
  pub single : ¬ (NamesTwice es)
  pub divided : ¬ (SomeOf IsZeroBelow es)
  pub is_whole : whole ≡ true → ¬ (SomeOf IsBroken es)

-- the first of the causes
abbrev pub FaultOf : List PointEntry → Bool → PointFault → Type 0
FaultOf es whole Double = NamesTwice es
FaultOf es whole ZeroBelow = (¬ (NamesTwice es)) × SomeOf IsZeroBelow es
FaultOf es whole NotWhole = (¬ (NamesTwice es)) × (¬ (SomeOf IsZeroBelow es)) × (whole ≡ true) × SomeOf IsBroken es
FaultOf es whole Overflow = IsChecked es whole × PassesLimit es
FaultOf es whole Memory = Unit {0}

-- none of the causes applies
pub record IsFaultless (es : List PointEntry) (whole : Bool) : Type 0 where
  pub checked : IsChecked es whole
  pub within : ¬ (PassesLimit es)

-- why entries are refused before any number is formed
abbrev pub CheckFault : List PointEntry → Bool → PointFault → Type 0
CheckFault es whole Double = NamesTwice es
CheckFault es whole ZeroBelow = (¬ (NamesTwice es)) × SomeOf IsZeroBelow es
CheckFault es whole NotWhole = (¬ (NamesTwice es)) × (¬ (SomeOf IsZeroBelow es)) × (whole ≡ true) × SomeOf IsBroken es
CheckFault es whole Overflow = ⊥
CheckFault es whole Memory = Unit {0}

-- why a number was not set
abbrev pub PutFault : ℤ → PointEntry → PointFault → Type 0
PutFault denominator e Double = ⊥
PutFault denominator e ZeroBelow = ⊥
PutFault denominator e NotWhole = ⊥
PutFault denominator e Overflow = (number : ℤ) × IsScaled denominator e number × PastLimit number
PutFault denominator e Memory = Unit {0}
