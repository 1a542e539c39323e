-- Guards whose truth at a point can be told.
use Rattle.std.specs.Prelude.{ℤ, List}
use Rattle.logic_meaning.specs.Shape.{IsQuantifierFree}
use Rattle.formula_tree.specs.declared.shape.Shape.{Shape}
use Rattle.formula_store.specs.declared.id.FormulaId.{FormulaId}
use Rattle.formula_store.specs.Nodes.{tree, IsId}
use Rattle.formula_store.specs.Truths.{IsWholeWhereAsked}
use Rattle.engine_answers.specs.declared.case_tree.Case.{Case}

-- the guard is a formula of the store without quantifiers, and where it has a congruence the denominator is 1
pub record CanBeTold (nodes : List (Shape FormulaId)) (denominator : ℤ) (k : Case) : Type 0 where
  pub is : IsId nodes k.guard
  pub free : IsQuantifierFree (tree nodes k.guard)
  pub whole : IsWholeWhereAsked (tree nodes k.guard) denominator
