-- The limit on the absolute value of a number: 2 ^ 127 - 1.
use Rattle.std.specs.Prelude.{◌^◌, ◌<◌, ◌≤◌, ℤ, unsigned_abs, nat_lt, Option, Some, None, if◌then◌else◌}

-- the absolute value is at most 2 ^ 127 - 1, so i128's least number is out
abbrev pub InLimit : ℤ → Type 0
InLimit z = unsigned_abs z < 2 ^ 127

-- the absolute value passes 2 ^ 127 - 1
abbrev pub PastLimit : ℤ → Type 0
PastLimit z = 2 ^ 127 ≤ unsigned_abs z

-- the number, where it is within the limit
unfoldable pub checked : ℤ → Option ℤ
checked z = if nat_lt (unsigned_abs z) (2 ^ 127) then Some z else None
