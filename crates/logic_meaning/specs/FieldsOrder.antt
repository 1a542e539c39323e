-- The order of fractions.
use Rattle.std.specs.Prelude.{ℕ, ℤ, pos, ◌*ℤ◌, ◌<ℤ◌}

-- the first fraction is less than the second
abbrev pub IsLess : ℤ → ℕ → ℤ → ℕ → Type 0
IsLess k m j n = (k *ℤ pos n) <ℤ (j *ℤ pos m)
