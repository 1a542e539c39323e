-- The names after a formula has been read.
use Rattle.std.specs.Prelude.{ℕ, List}
use Rattle.std.specs.List.{fold}
use Rattle.logic_meaning.specs.Formula as plain
use Rattle.logic_meaning.specs.Atom as meaning
use Rattle.logic_meaning.specs.Tree as meant
use Rattle.language_meaning.specs.Trees.{FormulaTree}
use Rattle.logic_meaning.specs.Names.{with_name}
use Rattle.language_meaning.specs.Resolving.{formula_variables}

-- the names with the new variables of the formula at the end
abbrev pub names_after : List (List ℕ) → FormulaTree → List (List ℕ)
names_after names f = fold with_name names (formula_variables f)
