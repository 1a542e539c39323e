-- The axes of a grid as they are written: when they mean none, and the truth at its points.
use Rattle.std.specs.Prelude.{◌≡◌, ◌⊎◌, ◌↔◌, ℕ, ℤ, pos, ◌≤ℤ◌, List, [], ◌∷◌, ◌++◌, Bool, true, false, Some, IsTrue, codes, length, map, slice_get}
use Rattle.exact_numbers.specs.declared.fraction.Fraction.{Fraction}
use Rattle.logic_meaning.specs.Context.{Context}
use Rattle.logic_meaning.specs.Point.{Point}
use Rattle.logic_meaning.specs.Some.{SomeOf}
use Rattle.language_meaning.specs.declared.tree.Literal.TheVariants.{Fits}
use Rattle.language_meaning.specs.declared.entries.PointEntry.{PointEntry}
use Rattle.language_meaning.specs.Point.{IsPast}
use Rattle.language_meaning.specs.Trees.{FormulaTree}
use Rattle.language_meaning.specs.Value.{TrueAt}
use Rattle.language_meaning.specs.declared.grid.Ratio.{Ratio}
use Rattle.language_meaning.specs.declared.grid.GridAxis.{GridAxis}
use Rattle.language_meaning.specs.Resolving.{resolve, bound_truth}
use Rattle.logic_meaning.specs.Names.{place}
use Rattle.program_meaning.specs.declared.axis.Axis.{Axis}
use Rattle.program_meaning.specs.Frames.{points_of}
use Rattle.program_meaning.specs.GridPoints.{grid_of, GridPasses, HasTooMany}
use Rattle.program_meaning.specs.PointPasses.{SomePointPasses}
use Rattle.program_meaning.specs.Points.{MeanNoPoint}
use Rattle.program_meaning.specs.Places.{by_names}
use Rattle.program_meaning.specs.State.{State, known}

-- ---- axes

-- the fraction as the entry of a point
abbrev pub entry_of : List ℕ → Ratio → PointEntry
entry_of x r = record { name = x; above = r.above; below = r.below }

-- the low ends of the axes, their high ends, and their steps, as entries of a point
abbrev pub lows : List GridAxis → List PointEntry
lows axes = map (λ (a : GridAxis). entry_of a.name a.low) axes

-- the high end of each axis, as an entry of a point
abbrev pub highs : List GridAxis → List PointEntry
highs axes = map (λ (a : GridAxis). entry_of a.name a.high) axes

-- the step of each axis, as an entry of a point
abbrev pub steps : List GridAxis → List PointEntry
steps axes = map (λ (a : GridAxis). entry_of a.name a.step) axes

-- the step is a fraction of two literals within the limit, and is not positive; one with the denominator 0 means no point
abbrev pub IsFlat : GridAxis → Type 0
IsFlat a = (above : ℤ) × (below : ℤ) × (a.step.above ≡ Fits above) × (a.step.below ≡ Fits below) × (above ≤ℤ pos 0)

-- The axes mean no grid of the theory: a name stands twice, a denominator is 0, a step is not positive, or over the integers an end or a step is not whole.
abbrev pub MeanNoGrid : Context → List GridAxis → Type 0
MeanNoGrid c axes = MeanNoPoint c (lows axes) ⊎ (MeanNoPoint c (highs axes) ⊎ (MeanNoPoint c (steps axes) ⊎ SomeOf IsFlat axes))

-- ---- the grid

-- the fraction has these literals
abbrev pub IsFraction : Ratio → Fraction → Type 0
IsFraction r f = (r.above ≡ Fits f.numerator) × (r.below ≡ Fits f.denominator)

-- the axis is that of the text, with its name numbered
pub record IsAxis (number : List ℕ → ℕ) (written : GridAxis) (axis : Axis) : Type 0 where
  pub name : axis.name.number ≡ number written.name
  pub low : IsFraction written.low axis.low
  pub high : IsFraction written.high axis.high
  pub step : IsFraction written.step axis.step

-- the same of each, in their order
abbrev pub AreAxes : (List ℕ → ℕ) → List GridAxis → List Axis → Type 0
AreAxes number [] [] = Unit {0}
AreAxes number [] (a ∷ axes) = ⊥
AreAxes number (w ∷ written) [] = ⊥
AreAxes number (w ∷ written) (a ∷ axes) = IsAxis number w a × AreAxes number written axes

-- a literal is above the limit
abbrev pub ArePast : List GridAxis → Type 0
ArePast axes = SomeOf IsPast (lows axes) ⊎ (SomeOf IsPast (highs axes) ⊎ SomeOf IsPast (steps axes))

-- a literal is above the limit, or a number of the grid is
abbrev pub PassesGrid : (List ℕ → ℕ) → List GridAxis → Type 0
PassesGrid number written = ArePast written ⊎ ((axes : List Axis) × AreAxes number written axes × GridPasses axes)

-- the grid has more points than a grid may have
abbrev pub HasTooManyPoints : (List ℕ → ℕ) → List GridAxis → Type 0
HasTooManyPoints number written = (axes : List Axis) × AreAxes number written axes × HasTooMany axes

-- ---- the truths

-- a product or a partial sum of the value of some atom passes the limit at a point of the grid; a grid that has too many points is not looked at
pub record TruthsPass (s : State) (f : FormulaTree) (written : List GridAxis) : Type 0 where
  pub axes : List Axis
  pub meant : AreAxes (place s.names) written axes
  pub few : ¬ (HasTooMany axes)
  pub passes : SomePointPasses (resolve s.context (known s) s.names f) (grid_of axes)

-- The truths of the formula as it is written, at the points of the grid in their order: all choices of a value of each axis, that of the first axis changing slowest.
pub record IsGridAnswer (s : State) (f : FormulaTree) (written : List GridAxis) (truths : List Bool) : Type 0 where
  pub axes : List Axis
  pub meant : AreAxes (place s.names) written axes
  pub count : length truths ≡ length (points_of (grid_of axes))
  pub each : (i : ℕ) (p : Point ℕ) (truth : Bool) → slice_get (points_of (grid_of axes)) i ≡ Some p → slice_get truths i ≡ Some truth
      → IsTrue truth ↔ TrueAt (bound_truth s.context (known s) s.names) s.context f (by_names s.names p)

-- a truth as a digit
abbrev pub truth_digit : Bool → ℕ
truth_digit true = 49
truth_digit false = 48

-- the line of the truths
abbrev pub grid_text : List Bool → List ℕ
grid_text truths = codes "{" ++ map truth_digit truths ++ codes "}"
