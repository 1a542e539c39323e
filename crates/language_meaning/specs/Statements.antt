-- Statements as plain trees.
use Rattle.std.specs.Prelude.{Bool, List, ℕ}
use Rattle.language_meaning.specs.declared.tree.Literal.{Literal}
use Rattle.language_meaning.specs.Trees.{TermTree, FormulaTree, FormulaTrees}
use Rattle.language_meaning.specs.Holes.{Nests}
use Rattle.language_meaning.specs.declared.statement.Setting.{Setting}
use Rattle.language_meaning.specs.declared.grid.GridAxis.{GridAxis}
use Rattle.language_meaning.specs.declared.entries.PointEntry.{PointEntry}

-- what a statement asks for
pub data CommandTree : Type 0 where
  Echo : FormulaTree → CommandTree
  Nnf : FormulaTree → CommandTree
  Pnf : FormulaTree → CommandTree
  Dnf : FormulaTree → CommandTree
  Cnf : FormulaTree → CommandTree
  Simpl : FormulaTree → FormulaTrees → CommandTree
  Qe : FormulaTree → FormulaTrees → CommandTree
  Qea : FormulaTree → FormulaTrees → CommandTree
  Holds : FormulaTree → List PointEntry → CommandTree
  Sample : FormulaTree → List PointEntry → CommandTree
  Grid : FormulaTree → List GridAxis → CommandTree
  Certify : FormulaTrees → CommandTree
  Check : FormulaTrees → List Literal → CommandTree
  Least : FormulaTrees → TermTree → CommandTree

-- what a statement does
pub data ActionTree : Type 0 where
  Empty : ActionTree
  Ignored : ActionTree
  Finish : ActionTree
  Choose : Setting → ActionTree
  Say : CommandTree → ActionTree
  Assign : List ℕ → CommandTree → ActionTree
  Assume : FormulaTrees → ActionTree
  Retract : ActionTree

-- A statement: what it does, whether its line is printed, and the commands inside its formulas, whose answers have names in these.
pub record StatementTree : Type 0 where
  pub action : ActionTree
  pub printed : Bool
  pub inner : Nests
