-- Heights, which are not told above the limit.
use Rattle.std.specs.Prelude.{ℕ, ◌+◌, min}
use Rattle.language_meaning.specs.Causes.{most_height}

-- the height, or one more than the limit where it is above that
abbrev pub told : ℕ → ℕ
told h = min h (most_height + 1)

-- the height of a formula over members of this height
abbrev pub over : ℕ → ℕ
over h = min (h + 1) (most_height + 1)
