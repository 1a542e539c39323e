-- The places of atoms in lists.
use Rattle.std.specs.Prelude.{ℕ, ◌+◌, List, [], ◌∷◌, length}

module _ {A : Type 0} where
  -- the places of atoms in the lists together
  abbrev pub places : List (List A) → ℕ
  places [] = 0
  places (us ∷ ls) = length us + places ls
