-- The points whose numbers run along scales.
use Rattle.std.specs.Prelude.{ℕ, zero, suc, ◌*◌, ◌/◌, ◌%◌, ℤ, pos, ◌+ℤ◌, List, [], ◌∷◌, flat_map, nat_eq, if◌then◌else◌}
use Rattle.program_meaning.specs.declared.scale.Scale.{Scale}

-- so many numbers, from the first on, each one step above the one before it
unfoldable pub run_of : ℤ → ℕ → ℕ → List ℤ
run_of low step zero = []
run_of low step (suc count) = low ∷ run_of (low +ℤ pos step) step count

-- the numbers of a scale
abbrev pub numbers_of : Scale → List ℤ
numbers_of s = run_of s.low s.step s.count

-- the numbers of all names, with another one at this name
unfoldable pub put : (ℕ → ℤ) → ℕ → ℤ → ℕ → ℤ
put numbers name number x = if nat_eq name x then number else numbers x

-- all choices of a number of each scale, that of the first scale changing slowest; each other name keeps its number
unfoldable pub choices : (ℕ → ℤ) → List Scale → List (ℕ → ℤ)
choices numbers [] = numbers ∷ []
choices numbers (s ∷ scales) = flat_map (λ n. choices (put numbers s.name.number n) scales) (numbers_of s)

-- how many choices there are
unfoldable pub size : List Scale → ℕ
size [] = 1
size (s ∷ scales) = s.count * size scales

-- the number of a scale with this index
abbrev pub number_of : Scale → ℕ → ℤ
number_of s index = s.low +ℤ pos (index * s.step)

-- the choice with this index
unfoldable pub choice : (ℕ → ℤ) → List Scale → ℕ → ℕ → ℤ
choice numbers [] index = numbers
choice numbers (s ∷ scales) index = choice (put numbers s.name.number (number_of s (index / size scales))) scales (index % size scales)
