-- How many steps there are in a span.
use Rattle.std.specs.Prelude.{ℕ, suc, ◌/◌, ℤ, pos, unsigned_abs, int_lt, if◌then◌else◌}

-- how many multiples of the step, from 0 on, are at most the span
unfoldable pub count_of : ℤ → ℕ → ℕ
count_of span step = if int_lt span (pos 0) then 0 else suc (unsigned_abs span / step)
