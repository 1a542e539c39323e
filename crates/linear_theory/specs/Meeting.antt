-- When a point meets constraints.
use Rattle.std.specs.Prelude.{◌≡◌, ℕ, ℤ, pos, ◌<ℤ◌, ◌≤ℤ◌, List}
use Rattle.logic_meaning.specs.Form.{value}
use Rattle.logic_meaning.specs.Point.{Point}
use Rattle.logic_meaning.specs.Some.{EachOf}
use Rattle.logic_meaning.specs.Constraints.{Bound, Equal, AtMost, Below, Constraint}

-- the number is as the bound says
abbrev pub Stands : Bound → ℤ → Type 0
Stands Equal v = v ≡ pos 0
Stands AtMost v = v ≤ℤ pos 0
Stands Below v = v <ℤ pos 0

-- the point meets the constraint
abbrev pub Meets : Point ℕ → Constraint → Type 0
Meets p c = Stands c.bound (value c.form p)

-- the point meets each of the constraints
abbrev pub MeetsAll : Point ℕ → List Constraint → Type 0
MeetsAll p cs = EachOf (Meets p) cs
