-- The formulas that a command reads, looked at one after the other.
use Rattle.logic_meaning.specs.Formula.{none, also}
use Rattle.language_meaning.specs.Trees.{FormulaTree, FormulaTrees}

module _ (P : FormulaTree → Type 0) where
  -- each of the formulas
  abbrev pub EachFormula : FormulaTrees → Type 0
  EachFormula none = Unit {0}
  EachFormula (also g gs) = P g × EachFormula gs
