-- Bytes in which no further piece has ended.
use Rattle.std.specs.Prelude.{ℕ, ◌<◌, List, ◌∷◌, ◌++◌, length}
use Rattle.language_meaning.specs.Pieces.{IsPiece}

-- no next piece ends in these bytes where more come
abbrev pub IsOpen : List ℕ → ℕ → Type 0
IsOpen fed from = (b : ℕ) (more : List ℕ) (start end : ℕ) → IsPiece (fed ++ b ∷ more) from start end → length fed < end
