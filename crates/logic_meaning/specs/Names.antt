-- The list of names, each numbered by its place.
use Rattle.std.specs.Prelude.{ℕ, List, ◌++◌, [], ◌∷◌, if◌then◌else◌}
use Rattle.std.specs.List.{list_any, position_or_len}
use Rattle.logic_meaning.specs.SameName.{same_name}

-- the names with one more at the end, where it does not stand among them
abbrev pub with_name : List (List ℕ) → List ℕ → List (List ℕ)
with_name names x = if list_any (same_name x) names then names else names ++ x ∷ []

-- the number of a name: its place in the list, from 0 on
abbrev pub place : List (List ℕ) → List ℕ → ℕ
place names x = position_or_len (same_name x) names
