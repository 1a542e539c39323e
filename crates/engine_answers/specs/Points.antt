-- Values and their numbers over the least common denominator.
use Rattle.std.specs.Prelude.{◌≡◌, ℕ, true, false, List, Option, Some, None, nat_eq, if◌then◌else◌}
use Rattle.std.specs.Map.{keys_of}
use Rattle.exact_numbers.specs.Frac.{scaled, lowest}
use Rattle.exact_numbers.specs.Limit.{PastLimit}
use Rattle.logic_meaning.specs.Limits.{is_within}
use Rattle.linear_forms.specs.Values.{Numbers, number_at, point_of}
use Rattle.logic_meaning.specs.Values.{Value, common_denominator}
use Rattle.case_theory.specs.Known.{known_at}
use Rattle.plain_samples.specs.Told.{IsPointOver}

-- the values of the names that have a number, in lowest terms
abbrev pub known_of : Numbers → List Value
known_of v = known_at (keys_of v.entries) (point_of v)

-- one of the names has a value whose numerator passes the limit in lowest terms
abbrev pub HasValuePastLimit : Numbers → Type 0
HasValuePastLimit v = (x : ℕ) × PastLimit (lowest (number_at v x) v.denominator).numerator

-- the numbers are those of the values over their least common denominator; there are none where one passes the limit
abbrev pub IsCommonPoint : List Value → Option Numbers → Type 0
IsCommonPoint vs None = common_denominator vs ≡ None
IsCommonPoint vs (Some v) = IsPointOver vs v

-- the numbers with that of the value over the same denominator
pub record IsWith (a : Value) (old new : Numbers) : Type 0 where
  pub number : (x : ℕ) → number_at new x ≡ (if nat_eq a.name x then scaled a.at old.denominator else number_at old x)
  pub denominator : new.denominator ≡ old.denominator
  pub within : is_within (scaled a.at old.denominator) ≡ true

-- there are none where that number passes the limit
abbrev pub IsWithNumber : Value → Numbers → Option Numbers → Type 0
IsWithNumber a old None = is_within (scaled a.at old.denominator) ≡ false
IsWithNumber a old (Some new) = IsWith a old new
