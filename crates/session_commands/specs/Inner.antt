-- What is known while the commands inside a statement are answered.
use Rattle.std.specs.Prelude.{◌≡◌, ◌≢◌, ℕ, List, length}
use Rattle.logic_meaning.specs.Every.{Every}
use Rattle.logic_meaning.specs.Numbers.{IsAtomInLimit}
use Rattle.formula_store.specs.declared.id.FormulaId.{FormulaId}
use Rattle.formula_store.specs.Nodes.{tree, IsId}
use Rattle.written_syntax.specs.declared.tree.Formula.{Formula}
use Rattle.written_syntax.specs.CodeTrees.{inner_of}
use Rattle.language_meaning.specs.Holes.{Nest, nest, alone}
use Rattle.written_syntax.specs.declared.statement.Action as acts
use Rattle.written_syntax.specs.StatementSyntaxCodeTrees.{whole_action}
use Rattle.language_meaning.specs.Texts.{formulas_in}
use Rattle.written_syntax.specs.StatementSyntaxWritable.{IsFormulaBeside, IsInnerOver}
use Rattle.program_meaning.specs.declared.line.StatementError.{StatementError}
use Rattle.program_meaning.specs.declared.line.StatementError.TheVariants as error
use Rattle.program_meaning.specs.State.{State, with_names, with_answers}
use Rattle.program_meaning.specs.Inside.{GivesAll, SomeStops}
use Rattle.program_meaning.specs.Reply.{with_variables}
use Rattle.form_commands.specs.Reading.{AreNumbered}
use Rattle.session_state.specs.declared.state.SessionState.{SessionState}
use Rattle.session_state.specs.Keeping.{IsSessionFormula, state_of}
use Rattle.session_state.specs.Scripted.{answered_tree}
use Rattle.session_commands.specs.Asking.{asked_action}

-- an answer as a session has it: the id of a formula of the session, with its numbers within the limit
pub record IsOwn (d : SessionState) (id : FormulaId) : Type 0 where
  pub is : IsId d.store id
  pub formula : IsSessionFormula (state_of d).context (length d.names) (tree d.store id)
  pub numbers : Every IsAtomInLimit (tree d.store id)

-- a command inside a formula, which can be written, and whose variables have their numbers
abbrev pub IsNumberedNest : List (List ℕ) → Nest → Type 0
IsNumberedNest names (nest c ns) = IsInnerOver (IsFormulaBeside ns) c × AreNumbered names (formulas_in c)

-- the commands inside the action are answered, and the action is looked at in this state, where its variables have their numbers
pub record AreAnswered (a : acts.Action) (s : State) (limit : ℕ) (reached : State) : Type 0 where
  pub given : GivesAll (whole_action a).inner (with_variables (whole_action a).inner (asked_action a) s) limit reached.answers (with_variables alone (asked_action a) reached).names
  pub is : with_variables alone (asked_action a) reached ≡ with_answers (with_names s (with_variables alone (asked_action a) reached).names) reached.answers

-- one of them is refused with the word; of want of memory nothing is said
abbrev pub AreStopped : acts.Action → State → ℕ → StatementError → Type 0
AreStopped a s limit e = e ≢ error.Memory → SomeStops (whole_action a).inner (with_variables (whole_action a).inner (asked_action a) s) limit e

-- the formula can be written, and so can the commands inside it
abbrev pub IsWrittenFormula : Formula → Type 0
IsWrittenFormula f = IsFormulaBeside (inner_of f) (answered_tree f)
