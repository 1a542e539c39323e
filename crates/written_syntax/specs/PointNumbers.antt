-- The numbers of a point as the code keeps them, and how they are set.
use Rattle.std.specs.Prelude.{◌≡◌, ℕ, ℤ, pos, ◌<ℤ◌, unsigned_abs, List, unwrap_or, Option, Some, None, IfSome, if◌then◌else◌}
use Rattle.std.specs.List.{AllByRecursion}
use Rattle.std.specs.Ordering.{nat_cmp}
use Rattle.std.specs.Cmp.Lexicographic.{slice_cmp}
use Rattle.std.specs.BTreeMap.{is_at}
use Rattle.std.specs.Map.{lookup}
use Rattle.exact_numbers.specs.Limit.{InLimit}
use Rattle.exact_numbers.specs.Divides.{Divides}
use Rattle.exact_numbers.specs.Frac.{Frac, lowest}
use Rattle.logic_meaning.specs.Point as meaning
use Rattle.language_meaning.specs.declared.tree.Literal.TheVariants.{Fits}
use Rattle.language_meaning.specs.declared.entries.PointEntry.{PointEntry}
use Rattle.written_syntax.specs.Proper.{IsProperEntry}
use Rattle.language_meaning.specs.Point.{HasEntry, IsZeroBelow, IsPast, lowest_below, IsScaled}

-- the value of the entry in lowest terms
pub record IsLowestValue (e : PointEntry) (v : Frac) : Type 0 where
  pub above : ℤ
  pub below : ℤ
  pub fits_above : e.above ≡ Fits above
  pub fits_below : e.below ≡ Fits below
  pub positive : pos 0 <ℤ below
  pub value : v ≡ lowest above below

-- an entry that has a number over the denominator
pub record IsReady (denominator : ℤ) (e : PointEntry) : Type 0 where
  pub proper : IsProperEntry e
  pub divided : ¬ (IsZeroBelow e)
  pub fits : ¬ (IsPast e)
  pub common : Divides (lowest_below e) denominator

-- what is seen of a point in the code: a number for some names, over one positive denominator
pub record Numbers : Type 0 where
  pub numbers : List (List ℕ × ℤ)
  pub denominator : ℤ
  pub positive : pos 0 <ℤ denominator

-- the number of a name, if it has one
abbrev pub number_of : List ℕ → List (List ℕ × ℤ) → Option ℤ
number_of name numbers = lookup (is_at (slice_cmp nat_cmp name)) numbers

-- the point that they are
abbrev pub point_of : Numbers → meaning.Point (List ℕ)
point_of p = record { at = λ name. unwrap_or (number_of name p.numbers) (pos 0); below = unsigned_abs p.denominator }

-- The number of one name is set, and each other name keeps its own.
abbrev pub SetsNumber : List (List ℕ × ℤ) → List (List ℕ × ℤ) → List ℕ → ℤ → Type 0
SetsNumber old new name number =
    (other : List ℕ) → number_of other new ≡ (if is_at (slice_cmp nat_cmp name) other then Some number else number_of other old)

-- the numbers are those of the entries over the denominator, all within the limit
pub record AreNumbers (es : List PointEntry) (denominator : ℤ) (numbers : List (List ℕ × ℤ)) : Type 0 where
  pub each : AllByRecursion (λ e. (number : ℤ) × IsScaled denominator e number × (number_of e.name numbers ≡ Some number)) es
  pub others : (name : List ℕ) → ¬ (HasEntry name es) → number_of name numbers ≡ None
  pub within : (name : List ℕ) → IfSome (number_of name numbers) InLimit
