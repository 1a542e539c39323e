-- A list of multipliers shows that no point meets the constraints.
use Rattle.std.specs.Prelude.{ℕ, ℤ, List}
use Rattle.logic_meaning.specs.Context.{Fields}
use Rattle.logic_meaning.specs.Point.{Point, Of}
use Rattle.logic_meaning.specs.Constraints.{Constraint}
use Rattle.linear_theory.specs.Meeting.{MeetsAll}
use Rattle.logic_meaning.specs.Farkas.{IsFarkas}

-- no point meets constraints with such multipliers
abbrev pub FarkasRefutes : Type 0
FarkasRefutes = (cs : List Constraint) (ms : List ℤ) → IsFarkas cs ms → (p : Point ℕ) → Of Fields p → ¬ (MeetsAll p cs)
