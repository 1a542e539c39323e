-- What a read and a write do to the bytes of a stream, and when a count of faults rose.
use Rattle.std.specs.Prelude.{◌≡◌, ℕ, ◌<◌, ◌-◌, ◌^◌, ◌⊎◌, List, [], ◌++◌, Option, Some, None}

-- the last value of a 64-bit counter
abbrev pub last_count : ℕ
last_count = 2 ^ 64 - 1

-- a count rose: it grew, or it stands at the last value of its counter
abbrev pub Rose : ℕ → ℕ → Type 0
Rose old new = (old < new) ⊎ ((old ≡ last_count) × (new ≡ last_count))

-- A source that tells its bytes had these bytes in front, and has the others left. One that doesn't, tells no more after.
abbrev pub Gave : Option (List ℕ) → Option (List ℕ) → List ℕ → Type 0
Gave None new bytes = new ≡ None
Gave (Some left) new bytes = (rest : List ℕ) × (left ≡ bytes ++ rest) × (new ≡ Some rest)

-- where a source tells its bytes, it has none left
abbrev pub IsAtEnd : Option (List ℕ) → Type 0
IsAtEnd None = Unit {0}
IsAtEnd (Some left) = left ≡ []

-- where a sink tells its bytes, these were added at their end
abbrev pub Took : Option (List ℕ) → Option (List ℕ) → List ℕ → Type 0
Took None new bytes = new ≡ None
Took (Some wrote) new bytes = new ≡ Some (wrote ++ bytes)
