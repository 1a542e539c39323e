-- Test points that are paid for.
use Rattle.std.specs.Prelude.{◌≡◌, ℕ, zero, suc, ◌+◌, ◌*◌, List, All, map, Option, Some, None}
use Rattle.logic_meaning.specs.Context.{Context}
use Rattle.logic_meaning.specs.Sizes.{nodes}
use Rattle.logic_meaning.specs.Tree.{Tree}
use Rattle.logic_meaning.specs.declared.side.Side.TheVariants.{Lower}
use Rattle.logic_meaning.specs.Atoms.{atoms_of}
use Rattle.logic_meaning.specs.BothTheories.{test_points}
use Rattle.logic_meaning.specs.StopLimits.{span_within}
use Rattle.logic_meaning.specs.Reference.{point_count}
use Rattle.logic_meaning.specs.Measured.{Outcome, done, then_of, pay, within}
use Rattle.logic_meaning.specs.declared.form.VarId.{VarId}
use Rattle.nnf_trees.specs.Forms.{limited}
use Rattle.test_points.specs.declared.error.PointError.{PointError}
use Rattle.test_points.specs.declared.points.TestPoint.{TestPoint}
use Rattle.test_points.specs.Points.{place_of, IsPointOf}
use Rattle.test_points.specs.declared.error.PointError.TheVariants as error
use Rattle.reference_engine.specs.declared.measured.Measured.{Measured}
use Rattle.reference_engine.specs.declared.measured.Measured.TheVariants as measured

-- what stops the engine
abbrev pub measured_of : PointError → Measured
measured_of error.Overflow = measured.Overflow
measured_of error.Nodes = measured.Nodes
measured_of error.Memory = measured.Memory

-- what so many test points of a branch of so many nodes cost, as far as it is there
abbrev pub charge_of : Option ℕ → Option ℕ → Option ℕ
charge_of None nodes = None
charge_of (Some zero) nodes = Some 0
charge_of (Some (suc m)) None = None
charge_of (Some (suc m)) (Some n) = limited (suc m * (n + 2))

-- the cost after the points of a step are paid for, or what stops it before that
abbrev pub paid_for : Context → ℕ → ℕ → Tree → ℕ → Outcome (Unit {0} × ℕ)
paid_for c limit x f cost = then_of (within (span_within c x f) cost) (λ r. pay limit (point_count c x f * (nodes f + 2)) r.1)

-- the program's test points of x in f are those of the step, and are paid for
pub record ArePaid (c : Context) (limit : ℕ) (x : VarId) (f : Tree) (before after : ℕ) (points : List TestPoint) : Type 0 where
  pub places : map place_of points ≡ test_points c Lower x.number (atoms_of f)
  pub points_of : All (IsPointOf x) points
  pub paid : paid_for c limit x.number f before ≡ done (tt, after)
