-- The truths of a formula at the points of a grid.
use Rattle.std.specs.Prelude.{◌≡◌, ℕ, ◌+◌, ◌*◌, min, Bool, List, Some, length, slice_get}
use Rattle.logic_meaning.specs.Point.{Point}
use Rattle.logic_meaning.specs.Shape.{IsQuantifierFree}
use Rattle.logic_meaning.specs.Tree.{Tree}
use Rattle.formula_tree.specs.declared.shape.Shape.{Shape}
use Rattle.formula_store.specs.declared.id.FormulaId.{FormulaId}
use Rattle.formula_store.specs.Nodes.{tree, IsId}
use Rattle.formula_store.specs.Truths.{Tells, IsWholeWhereAsked}
use Rattle.qe_parallel.specs.Fanned.{AnswerAll}
use Rattle.program_meaning.specs.Scales.{size}
use Rattle.program_meaning.specs.Frames.{Frame}
use Rattle.point_grid.specs.FramePoints.{point_at}

-- a truth for each point, in their order
pub record IsTruthList (f : Tree) (points : List (Point ℕ)) (truths : List Bool) : Type 0 where
  pub count : length truths ≡ length points
  pub each : (i : ℕ) (p : Point ℕ) (b : Bool) → slice_get points i ≡ Some p → slice_get truths i ≡ Some b → Tells b f p

-- ---- pieces of the work

-- a formula of a store, to be evaluated at the points of a grid
pub record Task : Type 0 where
  pub nodes : List (Shape FormulaId)
  pub root : FormulaId
  pub grid : Frame

-- the formula has no quantifiers, and is one of the theory of the grid
pub record IsTask (t : Task) : Type 0 where
  pub id : IsId t.nodes t.root
  pub free : IsQuantifierFree (tree t.nodes t.root)
  pub whole : IsWholeWhereAsked (tree t.nodes t.root) t.grid.denominator

-- the truth of the formula at the point with this index
abbrev pub IsTruthAt : Task → ℕ → Bool → Type 0
IsTruthAt t index truth = Tells truth (tree t.nodes t.root) (point_at t.grid index)

-- so many neighbouring points have the pieces
abbrev pub run_length : ℕ
run_length = 1000

-- the index of the first point of a piece; behind the last piece the number of points
abbrev pub start_of : Task → ℕ → ℕ
start_of t piece = min (piece * run_length) (size t.grid.scales)

-- the truths at the points of a piece
abbrev pub AreRun : Task → ℕ → List Bool → Type 0
AreRun t piece truths = AnswerAll (IsTruthAt t) (start_of t piece) (start_of t (piece + 1)) truths
