-- The symbols of a `get-value` with their values.
use Rattle.std.specs.Prelude.{◌≡◌, ℕ, List, true, false, not, map, is_some, position}
use Rattle.std.specs.List.{list_any}
use Rattle.exact_numbers.specs.Frac.{Frac}
use Rattle.language_meaning.specs.Value.{same_name}
use Rattle.program_meaning.specs.Texts.{pair_text, value_among}

-- the name is declared
abbrev pub IsDeclared : List (List ℕ) → List ℕ → Type 0
IsDeclared declared x = is_some (position (same_name x) declared) ≡ true

-- so is each of the names
abbrev pub AreDeclared : List (List ℕ) → List (List ℕ) → Type 0
AreDeclared declared xs = list_any (λ x. not (is_some (position (same_name x) declared))) xs ≡ false

-- each symbol with its value, where the declared names have these values
abbrev pub pair_texts : List (List ℕ) → List Frac → List (List ℕ) → List (List ℕ)
pair_texts declared vs xs = map (λ x. pair_text x (value_among declared vs x)) xs
