-- From the axes of a grid to the truths at its points. The state is one in which the variables of the command have their numbers.
use Rattle.std.specs.Prelude.{◌≡◌, ◌⊎◌, ℕ, pos, List, Bool, None}
use Rattle.logic_meaning.specs.Context.{Context}
use Rattle.logic_meaning.specs.Tree.{Tree}
use Rattle.language_meaning.specs.declared.tree.Literal.TheVariants.{Fits, Past}
use Rattle.language_meaning.specs.declared.entries.PointEntry.{PointEntry}
use Rattle.language_meaning.specs.Trees.{FormulaTree}
use Rattle.language_meaning.specs.declared.grid.Ratio.{Ratio}
use Rattle.language_meaning.specs.declared.grid.GridAxis.{GridAxis}
use Rattle.language_meaning.specs.Statements.{Grid}
use Rattle.program_meaning.specs.declared.axis.Axis.{Axis}
use Rattle.program_meaning.specs.Frames.{Frame}
use Rattle.program_meaning.specs.GridPoints.{grid_of}
use Rattle.program_meaning.specs.PointPasses.{SomePointPasses}
use Rattle.program_meaning.specs.declared.line.StatementError.{StatementError}
use Rattle.program_meaning.specs.declared.line.StatementError.TheVariants as error
use Rattle.program_meaning.specs.State.{State}
use Rattle.program_meaning.specs.Grids.{entry_of, AreAxes, MeanNoGrid, PassesGrid, HasTooManyPoints}
use Rattle.program_meaning.specs.Meaning.{meaning}
use Rattle.program_meaning.specs.Causes.{IsAccepted}
use Rattle.form_commands.specs.Replies.{use_of, Refuses}
use Rattle.point_queries.specs.declared.grids.Part.{Part}
use Rattle.point_queries.specs.declared.grids.Part.TheVariants as part

-- this part of the axis, as the entry of a point
abbrev pub part_entry : Part → GridAxis → PointEntry
part_entry part.Low a = entry_of a.name a.low
part_entry part.High a = entry_of a.name a.high
part_entry part.Step a = entry_of a.name a.step

-- no denominator of the axis is 0
pub record IsDivided (a : GridAxis) : Type 0 where
  pub low : ¬ (a.low.below ≡ Fits (pos 0))
  pub high : ¬ (a.high.below ≡ Fits (pos 0))
  pub step : ¬ (a.step.below ≡ Fits (pos 0))

-- a literal of the fraction is above the limit
abbrev pub IsPastRatio : Ratio → Type 0
IsPastRatio r = (r.above ≡ Past) ⊎ (r.below ≡ Past)

-- one of the axis is
abbrev pub IsPastAxis : GridAxis → Type 0
IsPastAxis a = IsPastRatio a.low ⊎ (IsPastRatio a.high ⊎ IsPastRatio a.step)

-- the command is refused with the word under a limit of nodes, whether its line is printed or not
abbrev pub RefusesGrid : State → ℕ → FormulaTree → List GridAxis → StatementError → Type 0
RefusesGrid s limit f axes e = (printed : Bool) → Refuses s limit (use_of None printed) (Grid f axes) e

-- no cause applies to it
abbrev pub AcceptsGrid : State → FormulaTree → List GridAxis → Type 0
AcceptsGrid s f axes = (limit : ℕ) (printed : Bool) → IsAccepted (meaning (Grid f axes)) s limit (use_of None printed)

-- why the axes are not looked at further
abbrev pub AxesStop : Context → List GridAxis → StatementError → Type 0
AxesStop c axes e = ((e ≡ error.Point) × MeanNoGrid c axes) ⊎ (e ≡ error.Memory)

-- the grid is that of the axes as they are written, and neither are its numbers past the limit nor has it too many points
pub record IsMeantGrid (number : List ℕ → ℕ) (written : List GridAxis) (grid : Frame) : Type 0 where
  pub axes : List Axis
  pub meant : AreAxes number written axes
  pub same : grid ≡ grid_of axes
  pub within : ¬ (PassesGrid number written)
  pub few : ¬ (HasTooManyPoints number written)

-- why there is no grid; where it has too many points, none of its numbers passes the limit
abbrev pub NoGrid : (List ℕ → ℕ) → List GridAxis → StatementError → Type 0
NoGrid number written e = ((e ≡ error.Overflow) × PassesGrid number written) ⊎ (((e ≡ error.Nodes) × (¬ (PassesGrid number written)) × HasTooManyPoints number written) ⊎ (e ≡ error.Memory))

-- why there are no truths at the points of the grid
abbrev pub TruthsStop : Tree → Frame → StatementError → Type 0
TruthsStop t grid e = ((e ≡ error.Overflow) × SomePointPasses t grid) ⊎ (e ≡ error.Memory)
