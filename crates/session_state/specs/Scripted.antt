-- Formulas as scripts have them, where the answers of the commands inside have names.
use Rattle.std.specs.Prelude.{◌≤◌, length}
use Rattle.std.specs.List.{AllByRecursion}
use Rattle.written_syntax.specs.declared.tree.Formula.{Formula}
use Rattle.language_meaning.specs.Holes.{command_count}
use Rattle.written_syntax.specs.CodeTrees.{named_tree, inner_of}
use Rattle.language_meaning.specs.Names.{IsVariable}
use Rattle.written_syntax.specs.Proper.{IsProperFormula}
use Rattle.language_meaning.specs.Trees.{FormulaTree}
use Rattle.language_meaning.specs.Resolving.{formula_variables}
use Rattle.session_state.specs.declared.state.SessionState.{SessionState}

-- the formula is proper, and its variables are ones that a script can write
pub record IsScripted (f : FormulaTree) : Type 0 where
  pub proper : IsProperFormula f
  pub variables : AllByRecursion IsVariable (formula_variables f)

-- the tree of a formula, with the names of answers in the places of the commands inside it
abbrev pub answered_tree : Formula → FormulaTree
answered_tree f = named_tree 0 f

-- the formula is such a one, and the state has an answer for each command inside it
pub record HasAnswers (d : SessionState) (f : Formula) : Type 0 where
  pub scripted : IsScripted (answered_tree f)
  pub places : command_count (inner_of f) ≤ length d.answers.items
