-- Formulas that may stand asserted: they are resolved in the same way however many levels are numbered.
use Rattle.std.specs.Prelude.{ℕ, List, []}
use Rattle.logic_meaning.specs.Context.{Context}
use Rattle.logic_meaning.specs.Every.{Every}
use Rattle.written_syntax.specs.FreeNames.{IsFree}
use Rattle.language_meaning.specs.Trees.{FormulaTree}
use Rattle.resolved_formulas.specs.Accepted.{IsAccepted}
use Rattle.language_meaning.specs.Resolving.{formula_variables}
use Rattle.smt_meaning.specs.Atoms.{IsOfTheory}
use Rattle.smt_language.specs.Levels.{levels}
use Rattle.smt_meaning.specs.LevelsBelow.{IsLevelBelow, AreLevelsBelow}

-- Its atoms are of the theory, its names are those of levels, of which the free ones are below count, and no cause of a refusal applies
-- to it, however many levels are numbered.
pub record IsResolvable (c : Context) (count : ℕ) (f : FormulaTree) : Type 0 where
  pub atoms : Every (IsOfTheory c) f
  pub most : ℕ
  pub below : AreLevelsBelow most (formula_variables f)
  pub closed : (x : List ℕ) → IsFree f x → IsLevelBelow count x
  pub accepted : (n : ℕ) → AreLevelsBelow n (formula_variables f) → IsAccepted c [] (levels n) f
