-- What the steps of an answer give one another.
use Rattle.std.specs.Prelude.{◌≡◌, ◌⊎◌, ◌≤◌, ℕ, List, Bool, Option, Some, None, length}
use Rattle.logic_meaning.specs.Formula.{none, also}
use Rattle.logic_meaning.specs.Tree.{Tree}
use Rattle.session_state.specs.declared.state.SessionState.{SessionState}
use Rattle.session_state.specs.Growth.{KeepsState}
use Rattle.language_meaning.specs.Trees.{FormulaTree, FormulaTrees}
use Rattle.written_syntax.specs.CodeTrees.{formula_trees}
use Rattle.language_meaning.specs.Statements.{CommandTree, Echo, Nnf, Pnf, Dnf, Cnf, Simpl, Qe}
use Rattle.logic_meaning.specs.Bindings.{bind}
use Rattle.language_meaning.specs.Resolving.{BoundTrees, resolve}
use Rattle.formula_store.specs.declared.id.FormulaId.{FormulaId}
use Rattle.program_meaning.specs.declared.line.Line.{Line}
use Rattle.program_meaning.specs.declared.line.StatementError.{StatementError}
use Rattle.program_meaning.specs.declared.line.StatementError.TheVariants as error
use Rattle.form_commands.specs.declared.forms.Form.{Form}
use Rattle.form_commands.specs.Forms.{IsFormOf}
use Rattle.form_commands.specs.declared.forms.Form.TheVariants as form
use Rattle.session_commands.specs.declared.formulas.FormCommand.{FormCommand}
use Rattle.session_commands.specs.declared.formulas.FormCommand.TheVariants as wanted
use Rattle.form_commands.specs.declared.forms.ClauseForm.TheVariants as clause_form
use Rattle.form_commands.specs.declared.way.Way.TheVariants as way
use Rattle.program_meaning.specs.State.{State, known}
use Rattle.program_meaning.specs.Assumptions.{assumed}
use Rattle.form_commands.specs.Replies.{use_of, Refuses}
use Rattle.form_commands.specs.Refusals.{IsLongText, LineFault}
use Rattle.program_meaning.specs.Meaning.{meaning}
use Rattle.program_meaning.specs.Uses.{Use, formula_line}
use Rattle.program_meaning.specs.Causes.{HasNoRoom, IsTooLarge}
use Rattle.program_meaning.specs.Reply.{IsLine}
use Rattle.program_meaning.specs.Points.{IsQuantified}
use Rattle.language_meaning.specs.declared.static_error.StaticError.TheVariants as static
use Rattle.form_commands.specs.Reading.{AreReadable, HasNoEarlier, AreUnread}

-- the assumptions
abbrev pub given_trees : FormCommand → FormulaTrees
given_trees wanted.Resolved = none
given_trees wanted.NegationNormal = none
given_trees wanted.Prenex = none
given_trees (wanted.Distributed clauses) = none
given_trees (wanted.Simplified given) = formula_trees given.now
given_trees (wanted.Eliminated found given) = formula_trees given.now

-- the form that is wanted
abbrev pub form_of : FormCommand → Form
form_of wanted.Resolved = form.AsRead
form_of wanted.NegationNormal = form.NegationNormal
form_of wanted.Prenex = form.Prenex
form_of (wanted.Distributed clauses) = form.Distributed clauses
form_of (wanted.Simplified given) = form.Simplified
form_of (wanted.Eliminated found given) = form.Eliminated found

-- the command that gives the wanted formula
abbrev pub command_of : FormCommand → FormulaTree → CommandTree
command_of wanted.Resolved f = Echo f
command_of wanted.NegationNormal f = Nnf f
command_of wanted.Prenex f = Pnf f
command_of (wanted.Distributed clause_form.Disjunctive) f = Dnf f
command_of (wanted.Distributed clause_form.Conjunctive) f = Cnf f
command_of (wanted.Simplified given) f = Simpl f (formula_trees given.now)
command_of (wanted.Eliminated found given) f = Qe f (formula_trees given.now)

-- a quantifier stands in a formula that is asked for its disjunctive or conjunctive form
abbrev pub HasUnwantedQuantifier : State → FormCommand → FormulaTree → Type 0
HasUnwantedQuantifier s wanted.Resolved f = ⊥
HasUnwantedQuantifier s wanted.NegationNormal f = ⊥
HasUnwantedQuantifier s wanted.Prenex f = ⊥
HasUnwantedQuantifier s (wanted.Distributed clauses) f = IsQuantified (known s) f
HasUnwantedQuantifier s (wanted.Simplified given) f = ⊥
HasUnwantedQuantifier s (wanted.Eliminated found given) f = ⊥

-- no cause in reading applies, nor is there a quantifier where none may be
pub record IsReady (s : State) (w : FormCommand) (f : FormulaTree) : Type 0 where
  pub readable : AreReadable s (also f (given_trees w))
  pub plain : ¬ (HasUnwantedQuantifier s w f)

-- the word is that of such a quantifier, and no cause in reading applies but an overflow
pub record IsQuantifiedFirst (s : State) (w : FormCommand) (f : FormulaTree) (e : StatementError) : Type 0 where
  pub word : e ≡ error.Quantified
  pub quantified : HasUnwantedQuantifier s w f
  pub first : HasNoEarlier s (also f (given_trees w)) static.Overflow

-- the word is that of the first cause in reading, and no such quantifier comes before an overflow
pub record IsUnreadFirst (s : State) (w : FormCommand) (f : FormulaTree) (e : StatementError) : Type 0 where
  pub unread : AreUnread s (also f (given_trees w)) e
  pub plain : e ≡ error.Overflow → ¬ (HasUnwantedQuantifier s w f)

-- why a formula and its assumptions are not ready
abbrev pub IsUnready : State → FormCommand → FormulaTree → StatementError → Type 0
IsUnready s w f e = IsQuantifiedFirst s w f e ⊎ IsUnreadFirst s w f e

-- ---- forms

-- t is the wanted form of a formula that is read in a state in which its variables have their numbers, and these are the names after it
pub record IsWantedOf (s : State) (limit : ℕ) (w : FormCommand) (f : FormulaTree) (t : Tree) (after : List (List ℕ)) : Type 0 where
  pub ready : IsReady s w f
  pub form : IsFormOf s.context (length s.names) (assumed s (given_trees w)) limit (form_of w) (resolve s.context (known s) s.names f) t
  pub names : (meaning (command_of w f)).names s after

-- the formula may be bound to the name, if there is one
pub record MayBind (bound : BoundTrees) (target : Option (List ℕ)) (t : Tree) : Type 0 where
  pub room : ¬ (HasNoRoom bound target)
  pub small : ¬ (IsTooLarge target t)

-- why it may not
abbrev pub TargetFault : BoundTrees → Option (List ℕ) → Tree → StatementError → Type 0
TargetFault bound target t e = ((e ≡ error.Bindings) × (HasNoRoom bound target ⊎ ((¬ (HasNoRoom bound target)) × IsTooLarge target t))) ⊎ (e ≡ error.Memory)

-- the formula may be bound, and this is its line
pub record IsLineOf (target : Option (List ℕ)) (printed : Bool) (s : State) (t : Tree) (answer : Line) : Type 0 where
  pub may : MayBind s.bound target t
  pub line : IsLine printed (formula_line target s.names t) answer
  pub short : ¬ (IsLongText printed (formula_line target s.names t))

-- why it is not bound, or where it may be, not printed
abbrev pub GiveFault : Option (List ℕ) → Bool → State → Tree → StatementError → Type 0
GiveFault target printed s t e = TargetFault s.bound target t e ⊎ (MayBind s.bound target t × LineFault printed (formula_line target s.names t) e)

-- the name, if there is one, is as long as a name may be
abbrev pub HasFewBytes : Option (List ℕ) → Type 0
HasFewBytes None = Unit {0}
HasFewBytes (Some x) = length x ≤ 64

-- ---- conditions by cases, and the reference after them

-- it is asked by cases first
abbrev pub IsFirstAttempt : FormCommand → Type 0
IsFirstAttempt wanted.Resolved = Unit {0}
IsFirstAttempt wanted.NegationNormal = Unit {0}
IsFirstAttempt wanted.Prenex = Unit {0}
IsFirstAttempt (wanted.Distributed clauses) = Unit {0}
IsFirstAttempt (wanted.Simplified given) = Unit {0}
IsFirstAttempt (wanted.Eliminated way.ByCases given) = Unit {0}
IsFirstAttempt (wanted.Eliminated way.ByReference given) = ⊥

-- it asks for a condition by cases
abbrev pub IsByCases : FormCommand → Type 0
IsByCases wanted.Resolved = ⊥
IsByCases wanted.NegationNormal = ⊥
IsByCases wanted.Prenex = ⊥
IsByCases (wanted.Distributed clauses) = ⊥
IsByCases (wanted.Simplified given) = ⊥
IsByCases (wanted.Eliminated way.ByCases given) = Unit {0}
IsByCases (wanted.Eliminated way.ByReference given) = ⊥

-- the same command by the reference elimination alone
abbrev pub plain_of : FormCommand → FormCommand
plain_of wanted.Resolved = wanted.Resolved
plain_of wanted.NegationNormal = wanted.NegationNormal
plain_of wanted.Prenex = wanted.Prenex
plain_of (wanted.Distributed clauses) = wanted.Distributed clauses
plain_of (wanted.Simplified given) = wanted.Simplified given
plain_of (wanted.Eliminated found given) = wanted.Eliminated way.ByReference given

-- the refusal is for the size of what is given
abbrev pub IsForSize : StatementError → Type 0
IsForSize e = (e ≡ error.Bindings) ⊎ (e ≡ error.Text)

-- a condition by cases is refused for its size, though there is room for its name
abbrev pub IsUnfit : BoundTrees → Option (List ℕ) → FormCommand → StatementError → Type 0
IsUnfit bound target w e = IsByCases w × IsForSize e × (¬ (HasNoRoom bound target))

-- the command is not spared its refusals
abbrev pub IsUnspared : State → ℕ → Use → FormCommand → FormulaTree → Type 0
IsUnspared s limit u w f = ¬ ((meaning (command_of w f)).spared s limit u)

-- what has to be known where the reference elimination is asked alone
abbrev pub MayAsk : State → ℕ → Use → FormCommand → FormulaTree → Type 0
MayAsk s limit u wanted.Resolved f = Unit {0}
MayAsk s limit u wanted.NegationNormal f = Unit {0}
MayAsk s limit u wanted.Prenex f = Unit {0}
MayAsk s limit u (wanted.Distributed clauses) f = Unit {0}
MayAsk s limit u (wanted.Simplified given) f = Unit {0}
MayAsk s limit u (wanted.Eliminated way.ByCases given) f = Unit {0}
MayAsk s limit u (wanted.Eliminated way.ByReference given) f = IsUnspared s limit u (wanted.Eliminated way.ByReference given) f

-- the command is refused, whatever is done with what it gives, where it may be asked
abbrev pub RefusesAsked : State → ℕ → FormCommand → FormulaTree → StatementError → Type 0
RefusesAsked s limit w f e = (target : Option (List ℕ)) (printed : Bool) → MayAsk s limit (use_of target printed) w f → Refuses s limit (use_of target printed) (command_of w f) e

-- Why an attempt fails: a condition by cases is unfit, and then the command is not spared; or else the command is refused.
abbrev pub AttemptRefuses : State → ℕ → Use → FormCommand → FormulaTree → StatementError → Type 0
AttemptRefuses s limit u w f e = MayAsk s limit u w f → (IsUnfit s.bound u.target w e × IsUnspared s limit u w f) ⊎ ((¬ (IsUnfit s.bound u.target w e)) × Refuses s limit u (command_of w f) e)

-- a command that eliminates leaves the names as they are
abbrev pub KeepsWhereEliminated : FormCommand → SessionState → SessionState → Type 0
KeepsWhereEliminated wanted.Resolved old new = Unit {0}
KeepsWhereEliminated wanted.NegationNormal old new = Unit {0}
KeepsWhereEliminated wanted.Prenex old new = Unit {0}
KeepsWhereEliminated (wanted.Distributed clauses) old new = Unit {0}
KeepsWhereEliminated (wanted.Simplified given) old new = Unit {0}
KeepsWhereEliminated (wanted.Eliminated found given) old new = KeepsState old new

-- ---- bindings

-- the bindings with the id bound to the name, if there is one
abbrev pub bound_after : List (List ℕ × FormulaId) → Option (List ℕ) → FormulaId → List (List ℕ × FormulaId)
bound_after entries None id = entries
bound_after entries (Some x) id = bind entries x id
