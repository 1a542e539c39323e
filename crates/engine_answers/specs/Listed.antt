-- Branches and leaves as the cases of a store.
use Rattle.std.specs.Prelude.{◌≡◌, List, All as Each, reverse}
use Rattle.logic_meaning.specs.Some.{EachOf}
use Rattle.logic_meaning.specs.Cases as reference
use Rattle.formula_tree.specs.declared.shape.Shape.{Shape}
use Rattle.formula_store.specs.declared.id.FormulaId.{FormulaId}
use Rattle.formula_store.specs.Nodes.{IsId}
use Rattle.test_points.specs.declared.points.TestPoint.{TestPoint}
use Rattle.test_points.specs.Points.{IsTestPoint}
use Rattle.branch_rounds.specs.Branches.{Seen}
use Rattle.engine_answers.specs.declared.case_tree.Case.{Case}
use Rattle.engine_answers.specs.CaseTrees.{cases_seen}

-- the guard and the answers, the last one first
abbrev pub told_case : Case → FormulaId × List TestPoint
told_case k = (k.guard, k.answers.items)

-- what is left of the branch, and the points that led to it, the last one first
abbrev pub told_branch : Seen → FormulaId × List TestPoint
told_branch b = (b.formula, reverse b.points)

-- the cases are those of the reference elimination, with their guards among the formulas of the store
pub record AreShared (nodes : List (Shape FormulaId)) (meant : List reference.Case) (cases : List Case) : Type 0 where
  pub guards : EachOf (λ (k : Case). IsId nodes k.guard) cases
  pub points : EachOf (λ (k : Case). Each IsTestPoint k.answers.items) cases
  pub same : cases_seen nodes cases ≡ meant
