-- What a command is refused and answered with, by its meaning.
use Rattle.std.specs.Prelude.{◌≡◌, ◌≢◌, ℕ, List, Bool, Option, Some, None}
use Rattle.logic_meaning.specs.Tree.{Tree}
use Rattle.language_meaning.specs.Statements.{CommandTree, ActionTree, Empty, Ignored, Finish, Choose, Say, Assign, Assume, Retract}
use Rattle.session_state.specs.Numbered.{numbered}
use Rattle.session_state.specs.FormulaGiven.{GivesFormula}
use Rattle.program_meaning.specs.declared.line.Line.{Line}
use Rattle.program_meaning.specs.declared.line.StatementError.{StatementError}
use Rattle.program_meaning.specs.State.{State, with_names, with_bound}
use Rattle.program_meaning.specs.Meaning.{meaning, MayGive}
use Rattle.program_meaning.specs.Uses.{Use, formula_line}
use Rattle.program_meaning.specs.Causes.{IsTooLarge, IsAccepted, IsFirst}
use Rattle.program_meaning.specs.Reply.{IsLine, Tells, RefusesAction}
use Rattle.program_meaning.specs.declared.line.StatementError.TheVariants as error

-- what is done with what a command gives
abbrev pub use_of : Option (List ℕ) → Bool → Use
use_of target printed = record { target = target; printed = printed }

-- the command is refused with the word, in a state in which its variables have their numbers; of want of memory nothing is said
abbrev pub Refuses : State → ℕ → Use → CommandTree → StatementError → Type 0
Refuses s limit u c e = e ≢ error.Memory → IsFirst (meaning c) s limit u e

-- the same of a state in which its variables may have no numbers: they get them first
abbrev pub RefusesCommand : CommandTree → State → ℕ → Use → StatementError → Type 0
RefusesCommand c s limit u e = Refuses (numbered (meaning c) s) limit u c e

-- why an action is not answered; of want of memory nothing is said
abbrev pub IsStopped : State → ℕ → Bool → ActionTree → StatementError → Type 0
IsStopped s limit printed a e = e ≢ error.Memory → RefusesAction s limit printed a e

-- the state after a formula was answered
abbrev pub state_with : State → Option (List ℕ) → Tree → State
state_with s None t = s
state_with s (Some x) t = with_bound s x t

-- The command is accepted, and its line and the next state are those of a formula that it may give. The state is one in which its variables have their numbers.
pub record IsFormulaAnswer (s : State) (limit : ℕ) (u : Use) (c : CommandTree) (answer : Line) (next : State) : Type 0 where
  pub accepted : IsAccepted (meaning c) s limit u
  pub formula : Tree
  pub allowed : MayGive (meaning c).answer s limit formula
  pub names : List (List ℕ)
  pub named : (meaning c).names s names
  pub line : IsLine u.printed (formula_line u.target names formula) answer
  pub small : ¬ (IsTooLarge u.target formula)
  pub after : next ≡ state_with (with_names s names) u.target formula

-- the same of a state in which its variables may have no numbers: they get them first
abbrev pub AnswersFormula : CommandTree → State → ℕ → Use → Line → State → Type 0
AnswersFormula c s limit u answer next = IsFormulaAnswer (numbered (meaning c) s) limit u c answer next

-- the query is accepted, and this is the line of a text that it may be answered with, where the names after the answer are these
pub record IsQueryAnswer (s : State) (limit : ℕ) (printed : Bool) (c : CommandTree) (names : List (List ℕ)) (answer : Line) : Type 0 where
  pub accepted : IsAccepted (meaning c) s limit (use_of None printed)
  pub text : List ℕ
  pub told : Tells (meaning c).answer s limit names text
  pub line : IsLine printed text answer

-- the same of a state in which its variables may have no numbers: they get them first
abbrev pub AnswersQuery : CommandTree → State → ℕ → Bool → List (List ℕ) → Line → Type 0
AnswersQuery c s limit printed names answer = IsQueryAnswer (numbered (meaning c) s) limit printed c names answer

-- what the statement binds, if it binds something, is a formula
abbrev pub BindsFormula : ActionTree → Type 0
BindsFormula Empty = Unit {0}
BindsFormula Ignored = Unit {0}
BindsFormula Finish = Unit {0}
BindsFormula (Choose setting) = Unit {0}
BindsFormula (Say c) = Unit {0}
BindsFormula (Assign x c) = GivesFormula (meaning c).answer
BindsFormula (Assume given) = Unit {0}
BindsFormula Retract = Unit {0}
