-- A command that asks for cases, and why an attempt at it fails, in a state in which the variables of the command have their numbers.
use Rattle.std.specs.Prelude.{◌≢◌, ℕ, Bool, List, None, map}
use Rattle.written_syntax.specs.declared.tree.Formula.{Formula}
use Rattle.language_meaning.specs.Statements.{CommandTree, Qea}
use Rattle.language_meaning.specs.Trees.{FormulaTree, FormulaTrees, formulas_of}
use Rattle.written_syntax.specs.CodeTrees.{formula_tree}
use Rattle.session_state.specs.Scripted.{answered_tree}
use Rattle.program_meaning.specs.declared.line.StatementError.{StatementError}
use Rattle.program_meaning.specs.declared.line.StatementError.TheVariants as error
use Rattle.language_meaning.specs.Resolving.{resolve}
use Rattle.program_meaning.specs.Assumptions.{assumed}
use Rattle.program_meaning.specs.State.{State, known}
use Rattle.logic_meaning.specs.Cases.{Case}
use Rattle.form_commands.specs.declared.way.Way.{Way}
use Rattle.form_commands.specs.Cases.{AreCasesBy}
use Rattle.form_commands.specs.declared.way.Way.TheVariants as way
use Rattle.form_commands.specs.Replies.{use_of, Refuses}

-- the command that asks for the cases of a formula under assumptions
abbrev pub cases_command : Formula → List Formula → CommandTree
cases_command formula given = Qea (answered_tree formula) (formulas_of (map formula_tree given))

-- these are cases of the resolved formula under the standing assumptions and the given ones, found in this way
abbrev pub AreCasesIn : Way → State → ℕ → FormulaTree → FormulaTrees → List Case → Type 0
AreCasesIn w s limit f given cases = AreCasesBy w s.context (assumed s given) limit (resolve s.context (known s) s.names f) cases

-- the command is refused; of a list by cases that is too long nothing is said
abbrev pub CasesRefuse : Way → State → ℕ → Bool → FormulaTree → FormulaTrees → StatementError → Type 0
CasesRefuse way.ByCases s limit printed f given e = e ≢ error.Text → Refuses s limit (use_of None printed) (Qea f given) e
CasesRefuse way.ByReference s limit printed f given e = Refuses s limit (use_of None printed) (Qea f given) e
