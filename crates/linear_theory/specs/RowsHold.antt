-- Rows that a point meets, and those that are left when a name goes.
use Rattle.std.specs.Prelude.{ℕ, ℤ, pos, ◌≤ℤ◌, ◌<ℤ◌, Bool, true, false, List, ◌++◌, map}
use Rattle.logic_meaning.specs.Point.{Point}
use Rattle.logic_meaning.specs.Form.{value}
use Rattle.logic_meaning.specs.Some.{EachOf}
use Rattle.logic_meaning.specs.Rows.{Row, absent, pairs, without_name}

-- the number is as a row says
abbrev pub Holds : Bool → ℤ → Type 0
Holds true v = v <ℤ pos 0
Holds false v = v ≤ℤ pos 0

-- each row holds at the point
abbrev pub RowsHold : Point ℕ → List Row → Type 0
RowsHold p rows = EachOf (λ (r : Row). Holds r.strict (value r.form p)) rows

-- what the step leaves of the rows
abbrev pub rows_after : ℕ → List Row → List Row
rows_after x rows = absent x rows ++ map (without_name x) (pairs x rows)
