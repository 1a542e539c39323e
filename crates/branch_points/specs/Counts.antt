-- How many test points a name has on a side.
use Rattle.std.specs.Prelude.{◌≡◌, ◌⊎◌, ◌+◌, ◌<◌, ◌≤◌, ◌^◌, ℕ, pos, false, List, Option, MatchOption, count_by}
use Rattle.exact_numbers.specs.Limit.{PastLimit}
use Rattle.logic_meaning.specs.Context as meaning
use Rattle.logic_meaning.specs.Some.{SomeOf, EachOf}
use Rattle.logic_meaning.specs.Limits.{each, place_within}
use Rattle.logic_meaning.specs.Atom.{Atom}
use Rattle.logic_meaning.specs.declared.side.Side.{Side}
use Rattle.logic_meaning.specs.IntegersPoints.{own_span, integer_count_of, integer_points_of}
use Rattle.logic_meaning.specs.declared.form.VarId.{VarId}
use Rattle.normal_atoms.specs.declared.atoms.Context.{Context}
use Rattle.normal_atoms.specs.declared.atoms.Context.TheVariants as theory
use Rattle.normal_atoms.specs.Atoms.{context_of}
use Rattle.test_points.specs.declared.error.PointError.{PointError}
use Rattle.test_points.specs.declared.error.PointError.TheVariants as point
use Rattle.test_points.specs.Periods.{IsPeriodOf}
use Rattle.test_points.specs.Starts.{has_end}
use Rattle.branch_points.specs.declared.counts.Candidate.{Candidate}
use Rattle.branch_points.specs.declared.error.ChoiceError.{ChoiceError}
use Rattle.branch_points.specs.declared.error.ChoiceError.TheVariants as choice

-- why no points were chosen, where they could not be formed
abbrev pub choice_of : PointError → ChoiceError
choice_of point.Overflow = choice.Overflow
choice_of point.Nodes = choice.Nodes
choice_of point.Memory = choice.Memory

-- how many points are formed: over the fields the infinity and one for each end, over the integers equal ones as often as they are formed
abbrev pub count_of : meaning.Context → Side → ℕ → List Atom → ℕ
count_of meaning.Fields side x atoms = count_by (has_end side x) atoms + 1
count_of meaning.Integers side x atoms = integer_count_of side x atoms

-- the span of the name passes the limit
abbrev pub SpanPasses : meaning.Context → ℕ → List Atom → Type 0
SpanPasses meaning.Fields x atoms = ⊥
SpanPasses meaning.Integers x atoms = PastLimit (pos (own_span x atoms))

-- the number, or None where it does not fit in 64 bits
abbrev pub IsCount : Option ℕ → ℕ → Type 0
IsCount count n = MatchOption count (2 ^ 64 ≤ n) (λ m. m ≡ n)

-- over the integers a name and a side, the period of the name, and the number of its points there
pub record IsCandidate (atoms : List Atom) (k : Candidate) : Type 0 where
  pub period : IsPeriodOf k.name.number atoms k.period
  pub count : IsCount k.count (integer_count_of k.side k.name.number atoms)

-- the count is at most n, or n does not fit in 64 bits either
abbrev pub CountsAtMost : Option ℕ → ℕ → Type 0
CountsAtMost count n = MatchOption count (2 ^ 64 ≤ n) (λ m. m ≤ n)

-- there is a candidate, and it has at most n points
abbrev pub HasAtMost : Option Candidate → ℕ → Type 0
HasAtMost best n = MatchOption best ⊥ (λ k. CountsAtMost k.count n)

-- the span of the name passes the limit, or on no side it has fewer points than the candidate
abbrev pub IsBeaten : Context → List Atom → Option Candidate → VarId → Type 0
IsBeaten c atoms best x = SpanPasses (context_of c) x.number atoms ⊎ ((side : Side) → HasAtMost best (count_of (context_of c) side x.number atoms))

-- each name has more points on each side than so many, unless its span passes the limit
abbrev pub EachHasMore : Context → List Atom → List VarId → ℕ → Type 0
EachHasMore c atoms left most = EachOf (λ x. SpanPasses (context_of c) x.number atoms ⊎ ((side : Side) → most < count_of (context_of c) side x.number atoms)) left

-- over the integers the span of each name passes the limit, or a number of a point of some name does
pub record NumbersPass (c : Context) (atoms : List Atom) (left : List VarId) : Type 0 where
  pub integers : c ≡ theory.Integers
  pub passes : EachOf (λ x. SpanPasses (context_of c) x.number atoms) left ⊎ SomeOf (λ x. (side : Side) × (each place_within (integer_points_of side x.number atoms) ≡ false)) left
