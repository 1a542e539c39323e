-- A statement that is answered by way of the commands inside it.
use Rattle.std.specs.Prelude.{◌≡◌, ◌≢◌, ℕ, []}
use Rattle.formula_tree.specs.Makers.{Keeps}
use Rattle.formula_resolving.specs.Numbering.{Grows}
use Rattle.formula_store.specs.Nodes.{tree, IsId}
use Rattle.written_syntax.specs.declared.statement.Statement.{Statement}
use Rattle.written_syntax.specs.StatementSyntaxCodeTrees.{statement_tree}
use Rattle.program_meaning.specs.declared.line.Line.{Line}
use Rattle.program_meaning.specs.declared.line.StatementError.{StatementError}
use Rattle.program_meaning.specs.declared.line.StatementError.TheVariants as error
use Rattle.program_meaning.specs.State.{State, with_answers}
use Rattle.program_meaning.specs.Reply.{IsReached, Answers, RefusesStatement}
use Rattle.session_state.specs.declared.state.SessionState.{SessionState}

-- the statement is answered in a state that is reached through the commands inside it, and this is the state after it
pub record IsAnsweredThrough (t : Statement) (s : State) (limit : ℕ) (answer : Line) (after : State) : Type 0 where
  pub state : State
  pub reached : IsReached (statement_tree t) s limit state
  pub answered : Answers state limit t.printed (statement_tree t).action answer after

-- the same, where the answers are given up after it
pub record IsStatementAnswer (t : Statement) (s : State) (limit : ℕ) (answer : Line) (next : State) : Type 0 where
  pub after : State
  pub through : IsAnsweredThrough t s limit answer after
  pub left : next ≡ with_answers after []

-- the statement is refused with the word; of want of memory nothing is said
abbrev pub IsStatementStopped : Statement → State → ℕ → StatementError → Type 0
IsStatementStopped t s limit e = e ≢ error.Memory → RefusesStatement s limit (statement_tree t) e

-- all stays but for new names after the old ones and other answers
pub record LeavesState (old new : SessionState) : Type 0 where
  pub context : new.context ≡ old.context
  pub names : Grows old.names new.names
  pub bindings : new.bindings ≡ old.bindings
  pub standing : new.standing ≡ old.standing
  pub store : Keeps (IsId old.store) (tree old.store) (IsId new.store) (tree new.store)
