-- What is looked at before anything is answered at a point: the formula, the point, and whether the free names have entries. The state is one in which the
-- variables of the command have their numbers.
use Rattle.std.specs.Prelude.{◌≡◌, ◌⊎◌, ℕ, List, Bool, true, false, Option, Some, None, MatchOption, map}
use Rattle.std.specs.List.{AllByRecursion}
use Rattle.logic_meaning.specs.Context.{Context, Fields, Integers}
use Rattle.logic_meaning.specs.Formula.{none, also}
use Rattle.logic_meaning.specs.Point.{Of}
use Rattle.logic_meaning.specs.Some.{SomeOf}
use Rattle.language_meaning.specs.declared.entries.PointEntry.{PointEntry}
use Rattle.language_meaning.specs.Point.{PassesLimit, IsPointOf}
use Rattle.written_syntax.specs.PointNumbers.{Numbers, point_of}
use Rattle.language_meaning.specs.Statements.{CommandTree, Holds, Sample}
use Rattle.language_meaning.specs.Trees.{FormulaTree}
use Rattle.written_syntax.specs.Valued.{IsIn}
use Rattle.language_meaning.specs.Causes.{IsBound, OverflowsInReading}
use Rattle.formula_tree.specs.Makers.{IsMade}
use Rattle.language_meaning.specs.Resolving.{resolve}
use Rattle.logic_meaning.specs.Names.{place}
use Rattle.formula_store.specs.declared.id.FormulaId.{FormulaId}
use Rattle.formula_store.specs.Nodes.{tree, IsId}
use Rattle.program_meaning.specs.declared.line.StatementError.{StatementError}
use Rattle.program_meaning.specs.declared.line.StatementError.TheVariants as error
use Rattle.session_state.specs.declared.state.SessionState.{SessionState}
use Rattle.program_meaning.specs.State.{State, known}
use Rattle.program_meaning.specs.Points.{MeanNoPoint, HasUnvalued}
use Rattle.form_commands.specs.Replies.{use_of, Refuses}
use Rattle.language_meaning.specs.declared.static_error.StaticError.TheVariants as static
use Rattle.form_commands.specs.Reading.{IsReadable, HasNoEarlier}
use Rattle.program_meaning.specs.Meaning.{Meaning, meaning}
use Rattle.program_meaning.specs.Causes.{IsAccepted}

-- the names of the entries stand in the list
abbrev pub HaveNumbers : List (List ℕ) → List PointEntry → Type 0
HaveNumbers names es = AllByRecursion (λ e. IsIn e.name names) es

-- the names of the entries
abbrev pub entry_names : List PointEntry → List (List ℕ)
entry_names es = map (λ (e : PointEntry). e.name) es

-- the command with this meaning reads the formula, names the entries behind it, and is not refused for the theory
pub record Asks (f : FormulaTree) (es : List PointEntry) (m : Meaning) : Type 0 where
  pub formulas : m.formulas ≡ also f none
  pub further : m.further ≡ entry_names es
  pub context : (s : State) (limit : ℕ) → ¬ (m.must.context s limit)

-- each such command is refused with the word, whatever the limit is and whether a line is printed
abbrev pub RefusesAsking : State → FormulaTree → List PointEntry → StatementError → Type 0
RefusesAsking s f es e = (c : CommandTree) → Asks f es (meaning c) → (limit : ℕ) (printed : Bool) → Refuses s limit (use_of None printed) c e

-- Both commands that ask about a point, for the truth there and for a sample, are refused with the word, whatever the limit is and whether a line is printed.
abbrev pub RefusesBoth : State → FormulaTree → List PointEntry → StatementError → Type 0
RefusesBoth s f es e = (limit : ℕ) (printed : Bool) → Refuses s limit (use_of None printed) (Holds f es) e × Refuses s limit (use_of None printed) (Sample f es) e

-- and no cause applies to them
abbrev pub AcceptsBoth : State → FormulaTree → List PointEntry → Type 0
AcceptsBoth s f es = (limit : ℕ) (printed : Bool) → IsAccepted (meaning (Holds f es)) s limit (use_of None printed) × IsAccepted (meaning (Sample f es)) s limit (use_of None printed)

-- The word for a formula that is not resolved, where it is known whether something is bound to the name of an entry. There is
-- none where the reading overflows, since other causes come before that.
abbrev pub stop_of : StatementError → Bool → Option StatementError
stop_of error.Unbound met = Some error.Unbound
stop_of error.Memory met = Some error.Memory
stop_of e true = Some error.FormulaAsTerm
stop_of error.Overflow false = None
stop_of e false = Some e

-- the values of a point of the theory are whole
abbrev pub is_whole_theory : Context → Bool
is_whole_theory Fields = false
is_whole_theory Integers = true

-- none of the causes that are looked for before the point applies
pub record IsClear (s : State) (f : FormulaTree) (es : List PointEntry) : Type 0 where
  pub reading : HasNoEarlier s (also f none) static.Overflow
  pub entries : ¬ (SomeOf (IsBound (known s)) (entry_names es))

-- the resolved formula, or none where the reading overflows
pub record IsReadAs (s : State) (f : FormulaTree) (es : List PointEntry) (after : SessionState) (id : Option FormulaId) : Type 0 where
  pub clear : IsClear s f es
  pub formula : MatchOption id (OverflowsInReading s.context (known s) (place s.names) f) (λ id. IsReadable s f × IsMade (IsId after.store) (tree after.store) id (resolve s.context (known s) s.names f))

-- the entries mean a point of the theory, which is this one, or none where a number of it passes the limit
pub record IsMeantPoint (c : Context) (es : List PointEntry) (point : Option Numbers) : Type 0 where
  pub meant : ¬ (MeanNoPoint c es)
  pub numbers : MatchOption point (PassesLimit es) (λ p. IsPointOf es (point_of p) × (¬ (PassesLimit es)))

-- why there is no point
abbrev pub PointStop : Context → List PointEntry → StatementError → Type 0
PointStop c es e = ((e ≡ error.Point) × MeanNoPoint c es) ⊎ (e ≡ error.Memory)

-- the free names of the formula have entries
abbrev pub IsValued : State → FormulaTree → List PointEntry → Type 0
IsValued s f es = ¬ (HasUnvalued (known s) (place s.names) f es)

-- why that is not so
abbrev pub ValuedStop : State → FormulaTree → List PointEntry → StatementError → Type 0
ValuedStop s f es e = ((e ≡ error.Unvalued) × HasUnvalued (known s) (place s.names) f es) ⊎ (e ≡ error.Memory)

-- The formula is read as this id, and the entries mean this point, which is one of the theory. Nothing is wrong with either, and each free name has an entry.
pub record IsAsked (s : State) (f : FormulaTree) (es : List PointEntry) (after : SessionState) (id : FormulaId) (point : Numbers) : Type 0 where
  pub readable : IsReadable s f
  pub made : IsMade (IsId after.store) (tree after.store) id (resolve s.context (known s) s.names f)
  pub meant : IsPointOf es (point_of point)
  pub theory : Of s.context (point_of point)
  pub clear : AcceptsBoth s f es
