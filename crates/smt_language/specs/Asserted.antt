-- What becomes of an assertion: its formula in the language, or the first cause for which there is none.
use Rattle.std.specs.Prelude.{◌≡◌, ◌<◌, ◌≤◌, ◌+◌, ℕ, List, [], Bool, false, Some, None, length}
use Rattle.logic_meaning.specs.Context.{Context}
use Rattle.language_meaning.specs.Trees.{FormulaTree}
use Rattle.language_meaning.specs.Refusals.{IsFirst}
use Rattle.language_meaning.specs.declared.static_error.StaticError.{StaticError}
use Rattle.smt_language.specs.Trees.{ExpressionTree}
use Rattle.smt_language.specs.QuantifiedNames.{quantified_names}
use Rattle.smt_language.specs.Levels.{levels}
use Rattle.smt_language.specs.Meaning.{meaning, declared_scope, as_formula}
use Rattle.smt_language.specs.Nodes.{formula_nodes}
use Rattle.smt_language.specs.Undeclared.{has_unknown}
use Rattle.smt_language.specs.Known.{declared_known}

-- the names of the levels that its formula may need
abbrev pub assertion_levels : List (List ℕ) → ExpressionTree → List (List ℕ)
assertion_levels declared e = levels (length declared + quantified_names e)

-- some symbol of it is neither declared nor bound
abbrev pub is_undeclared : List (List ℕ) → ExpressionTree → Bool
is_undeclared declared e = has_unknown (declared_known declared) e

-- its symbols are known, and it means this formula
pub record MeansFormula (c : Context) (declared : List (List ℕ)) (e : ExpressionTree) (f : FormulaTree) : Type 0 where
  pub known : is_undeclared declared e ≡ false
  pub means : as_formula (meaning c (declared_scope declared) (length declared) e) ≡ Some f

-- and the formula has at most so many nodes, its terms counted
pub record MeansWithin (c : Context) (limit : ℕ) (declared : List (List ℕ)) (e : ExpressionTree) (f : FormulaTree) : Type 0 where
  pub formula : MeansFormula c declared e f
  pub nodes : formula_nodes f ≤ limit

-- the cause applies to its formula, and none that comes before it
pub record MeetsFirst (c : Context) (limit : ℕ) (declared : List (List ℕ)) (e : ExpressionTree) (cause : StaticError) : Type 0 where
  pub f : FormulaTree
  pub formula : MeansWithin c limit declared e f
  pub first : IsFirst c [] (assertion_levels declared e) f cause

-- its symbols are known, and it means no formula
pub record MeansNoFormula (c : Context) (declared : List (List ℕ)) (e : ExpressionTree) : Type 0 where
  pub known : is_undeclared declared e ≡ false
  pub means : as_formula (meaning c (declared_scope declared) (length declared) e) ≡ None

-- its formula has more nodes than the limit
pub record MeansTooMany (c : Context) (limit : ℕ) (declared : List (List ℕ)) (e : ExpressionTree) : Type 0 where
  pub f : FormulaTree
  pub formula : MeansFormula c declared e f
  pub nodes : limit < formula_nodes f
