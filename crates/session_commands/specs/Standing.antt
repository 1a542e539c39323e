-- Assumptions that are put behind the standing ones.
use Rattle.std.specs.Prelude.{◌≡◌, ◌≢◌, ℕ, List, Bool, None}
use Rattle.std.specs.List.{fold}
use Rattle.logic_meaning.specs.Tree.{Tree}
use Rattle.language_meaning.specs.Trees.{FormulaTrees}
use Rattle.session_state.specs.declared.state.SessionState.{SessionState}
use Rattle.session_state.specs.Trees.{standing_trees}
use Rattle.program_meaning.specs.declared.line.StatementError.{StatementError}
use Rattle.program_meaning.specs.declared.line.StatementError.TheVariants as error
use Rattle.program_meaning.specs.State.{State}
use Rattle.program_meaning.specs.Standing.{with_assumption}
use Rattle.program_meaning.specs.Meaning.{assumption_meaning}
use Rattle.session_state.specs.Numbered.{numbered}
use Rattle.program_meaning.specs.Reply.{AnswersAssumptions}
use Rattle.program_meaning.specs.declared.line.Line.{Line}
use Rattle.program_meaning.specs.Causes.{IsFirst}
use Rattle.form_commands.specs.Replies.{use_of}

-- The assumptions are refused with the word under any limit of nodes, in a state in which their variables have their numbers; of want of memory nothing is said.
abbrev pub RefusesAssumptions : FormulaTrees → State → Bool → StatementError → Type 0
RefusesAssumptions given s printed e = e ≢ error.Memory → (limit : ℕ) → IsFirst (assumption_meaning given) s limit (use_of None printed) e

-- the same of a state in which their variables may have no numbers: they get them first
abbrev pub RefusesAssumed : FormulaTrees → State → Bool → StatementError → Type 0
RefusesAssumed given s printed e = RefusesAssumptions given (numbered (assumption_meaning given) s) printed e

-- the assumptions are accepted under any limit of nodes, with this line and this next state; their variables get their numbers first
abbrev pub AnswersAssumed : FormulaTrees → State → Bool → Line → State → Type 0
AnswersAssumed given s printed answer next = (limit : ℕ) → AnswersAssumptions given (numbered (assumption_meaning given) s) limit printed answer next

-- the standing assumptions with these formulas behind them
abbrev pub grown_by : SessionState → List Tree → List Tree
grown_by state ts = fold with_assumption (standing_trees state.standing) ts

-- the new state has these assumptions behind the standing ones, and all else as before
pub record IsGrown (old : SessionState) (ts : List Tree) (new : SessionState) : Type 0 where
  pub standing : standing_trees new.standing ≡ grown_by old ts
  pub rest : new ≡ record old { standing = new.standing }
