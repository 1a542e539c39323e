-- The places of a list's members, by numbers of theirs.
use Rattle.std.specs.Prelude.{◌≡◌, ℕ, suc, nat_eq, List, [], ◌∷◌, map, Option, Some, None, if◌then◌else◌}
use Rattle.std.specs.declared.alloc.Global.{Global}
use Rattle.std.specs.declared.vec.Vec.{Vec}
use Rattle.std.specs.declared.hash.FoldHasher.{FoldHasher}
use Rattle.std.specs.declared.hash.BuildHasherDefault.{BuildHasherDefault}
use Rattle.std.specs.HashMap.{get, HashMap}

-- lists of places by numbers
abbrev pub Table : Type 0
Table = HashMap ℕ (Vec ℕ Global) (BuildHasherDefault FoldHasher)

abbrev pub items_of : Option (Vec ℕ Global) → List ℕ
items_of None = []
items_of (Some v) = v.items

-- the places that the table has for a number
abbrev pub places_at : Table → ℕ → List ℕ
places_at table p = items_of (get nat_eq table p)

module _ {X : Type 0} (number : X → ℕ) where
  -- the places of the members with the number p, in order
  abbrev pub places_of : ℕ → List X → List ℕ
  places_of p [] = []
  places_of p (x ∷ xs) = if nat_eq (number x) p then 0 ∷ map suc (places_of p xs) else map suc (places_of p xs)

  -- the table has the places of all members
  abbrev pub ArePlaces : Table → List X → Type 0
  ArePlaces table xs = (p : ℕ) → places_at table p ≡ places_of p xs
