-- The least above a bound of the critical values as a side sees them, as it is found from one atom after the other.
use Rattle.std.specs.Prelude.{◌≡◌, ℕ, Bool, true, List, map, Option, Some, None, option_map}
use Rattle.exact_numbers.specs.declared.fraction.Fraction.{Fraction}
use Rattle.exact_numbers.specs.Frac.{Frac}
use Rattle.exact_numbers.specs.Fraction.{frac_of}
use Rattle.logic_meaning.specs.Atom.{Atom}
use Rattle.logic_meaning.specs.declared.side.Side.{Side}
use Rattle.logic_meaning.specs.Calculated.{is_less, past, least_with, least_past, critical_values, seen}

-- the number is above the bound, if there is one
abbrev pub is_above : Option Frac → Frac → Bool
is_above None a = true
is_above (Some e) a = is_less e a

-- the atoms' critical values as the side sees them
abbrev pub seen_criticals : Side → ℕ → List Atom → List Frac
seen_criticals side x atoms = map (seen side) (critical_values x atoms)

-- the least of those above the bound, and of a number that may be there before them
abbrev pub least_among : Side → ℕ → Option Frac → Option Frac → List Atom → Option Frac
least_among side x bound before atoms = least_with before (past bound (seen_criticals side x atoms))

-- w is the least above the bound of the critical values as the side sees them, if these are there and one is above
pub record IsNextCritical (side : Side) (bound : Option Frac) (criticals : Option (List Frac)) (w : Option Fraction) : Type 0 where
  pub values : List Frac
  pub formed : criticals ≡ Some values
  pub least : option_map frac_of w ≡ least_past bound (map (seen side) values)
