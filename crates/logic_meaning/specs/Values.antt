-- Values of names: the point that they make of another, and the numbers by which they are put over one denominator.
use Rattle.std.specs.Prelude.{◌≡◌, ℕ, ℤ, pos, ◌*ℤ◌, Bool, List, [], ◌∷◌, Option, Some, None, nat_eq, unsigned_abs, if◌then◌else◌}
use Rattle.exact_numbers.specs.Limit.{checked}
use Rattle.exact_numbers.specs.Divides.{lcm_of}
use Rattle.exact_numbers.specs.Frac.{Frac, IsProper, IsLowest, scaled, ◌>>=◌}
use Rattle.logic_meaning.specs.Context.{Context, Fields, Integers}
use Rattle.logic_meaning.specs.Point.{Point, move}
use Rattle.logic_meaning.specs.Limits.{each, is_within}

-- a name and its value
pub record Value : Type 0 where
  pub name : ℕ
  pub at : Frac

-- the names of the values, in their order
abbrev pub value_names : List Value → List ℕ
value_names [] = []
value_names (v ∷ vs) = v.name ∷ value_names vs

-- the point with the name at its value
abbrev pub with_value : Point ℕ → Value → Point ℕ
with_value p v = move nat_eq p v.name (v.at.numerator *ℤ pos p.below) (unsigned_abs v.at.denominator)

-- the same of each value, one after the other
abbrev pub with_values : Point ℕ → List Value → Point ℕ
with_values p [] = p
with_values p (v ∷ vs) = with_values (with_value p v) vs

-- over the integers the denominator is 1
abbrev pub IsWhole : Context → Frac → Type 0
IsWhole Fields a = Unit {0}
IsWhole Integers a = a.denominator ≡ pos 1

-- a value of the theory, in lowest terms
pub record IsValue (c : Context) (v : Value) : Type 0 where
  pub proper : IsProper v.at
  pub lowest_terms : IsLowest v.at
  pub whole : IsWhole c v.at

-- ---- over one denominator

-- the least common multiple of a number and the denominators, formed with one after the other
abbrev pub multiple_with : ℤ → List Value → Option ℤ
multiple_with d [] = Some d
multiple_with d (v ∷ vs) = checked (lcm_of d v.at.denominator) >>= λ m. multiple_with m vs

-- each numerator over the denominator is within the limit
abbrev pub numerators_within : ℤ → List Value → Bool
numerators_within d vs = each (λ (v : Value). is_within (scaled v.at d)) vs

-- the least common denominator, where it and the numerators over it are within the limit
abbrev pub common_denominator : List Value → Option ℤ
common_denominator vs = multiple_with (pos 1) vs >>= λ d. if numerators_within d vs then Some d else None

-- the numerators over the denominator, in place of the numbers of these names
abbrev pub numbers_over : ℤ → List Value → (ℕ → ℤ) → ℕ → ℤ
numbers_over d [] at = at
numbers_over d (v ∷ vs) at = numbers_over d vs (λ x. if nat_eq v.name x then scaled v.at d else at x)

-- the point of these values; each other name is at 0
abbrev pub point_over : ℤ → List Value → Point ℕ
point_over d vs = record { at = numbers_over d vs (λ x. pos 0); below = unsigned_abs d }

-- all names at 0
abbrev pub origin : Point ℕ
origin = record { at = λ x. pos 0; below = 1 }
