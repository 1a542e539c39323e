-- How many ends the names of some atoms have on each side, by the numbers of the names.
use Rattle.std.specs.Prelude.{◌≡◌, ◌+◌, ◌<◌, ℕ, ℤ, pos, Bool, true, false, List, length, count_by, nat_lt, Option, Some, None, is_some, if◌then◌else◌, ◌^◌}
use Rattle.std.specs.Ordering.{int_eq}
use Rattle.logic_meaning.specs.Atom.{Atom, Compare, Congruent}
use Rattle.logic_meaning.specs.declared.side.Side.{Side}
use Rattle.logic_meaning.specs.declared.side.Side.TheVariants.{Lower, Upper}
use Rattle.logic_meaning.specs.IntegersPoints.{comparison_starts}
use Rattle.logic_meaning.specs.Reference.{stands_among}
use Rattle.test_points.specs.Starts.{has_end}
use Rattle.branch_points.specs.declared.ends.Ends.{Ends}

-- 1 for true, 0 for false
abbrev pub once : Bool → ℕ
once b = if b then 1 else 0

-- an atom has an end that lies to the side, of a name with this coefficient in it
abbrev pub ends_with : Side → Atom → ℤ → Bool
ends_with side (Compare r f) k = nat_lt 0 (length (comparison_starts side 1 k r f))
ends_with side (Congruent holds m f) k = false

-- the ends, none where there is no entry
abbrev pub ends_or_none : Option Ends → Ends
ends_or_none None = record { lower = 0; upper = 0 }
ends_or_none (Some e) = e

-- how many lie to the side
abbrev pub towards : Side → Ends → ℕ
towards Lower e = e.lower
towards Upper e = e.upper

-- how many ends of a name lie to the side
abbrev pub end_count : Side → Option Ends → ℕ
end_count side o = towards side (ends_or_none o)

-- the table has the ends of each name, and an entry for the names that stand in some atom
pub record AreEnds (atoms : List Atom) (table : ℕ → Option Ends) : Type 0 where
  pub counts : (side : Side) (x : ℕ) → end_count side (table x) ≡ count_by (has_end side x) atoms
  pub stands : (x : ℕ) → is_some (table x) ≡ stands_among x atoms

-- the ends of an atom are counted too, in which the names have these coefficients
pub record HaveMore (a : Atom) (times : ℕ → ℤ) (old new : ℕ → Option Ends) : Type 0 where
  pub counts : (side : Side) (x : ℕ) → end_count side (new x) ≡ end_count side (old x) + once (ends_with side a (times x))
  pub stands : (x : ℕ) → is_some (new x) ≡ (if int_eq (times x) (pos 0) then is_some (old x) else true)

-- the end of one term is counted too
pub record HaveTerm (a : Atom) (x : ℕ) (k : ℤ) (old new : ℕ → Option Ends) : Type 0 where
  pub counts : (side : Side) → end_count side (new x) ≡ end_count side (old x) + once (ends_with side a k)
  pub stands : is_some (new x) ≡ true
  pub others : (y : ℕ) → ¬ (y ≡ x) → new y ≡ old y

-- one more can be counted on each side
abbrev pub HasRoom : Option Ends → Type 0
HasRoom o = (side : Side) → end_count side o + 1 < 2 ^ 64
