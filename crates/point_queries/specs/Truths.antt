-- Why the truth at a point is not answered, in a state in which the variables of the command have their numbers.
use Rattle.std.specs.Prelude.{◌≡◌, ◌⊎◌, ℕ, List, Bool, None}
use Rattle.logic_meaning.specs.Context.{Context}
use Rattle.logic_meaning.specs.Point.{Point}
use Rattle.logic_meaning.specs.Tree.{Tree}
use Rattle.logic_meaning.specs.Sample.{reference_at}
use Rattle.reference_engine.specs.declared.measured.Measured.{Measured}
use Rattle.reference_engine.specs.Told.{StopsWith}
use Rattle.language_meaning.specs.declared.entries.PointEntry.{PointEntry}
use Rattle.language_meaning.specs.Statements.{Holds}
use Rattle.language_meaning.specs.Trees.{FormulaTree}
use Rattle.program_meaning.specs.declared.line.StatementError.{StatementError}
use Rattle.program_meaning.specs.declared.line.StatementError.TheVariants as error
use Rattle.program_meaning.specs.State.{State}
use Rattle.program_meaning.specs.Points.{SomeAtomPassesAt}
use Rattle.form_commands.specs.Replies.{use_of, Refuses}
use Rattle.form_commands.specs.Refusals.{measured_refusal}

-- the command is refused with the word under a limit of nodes, whether its line is printed or not
abbrev pub RefusesTruth : State → ℕ → FormulaTree → List PointEntry → StatementError → Type 0
RefusesTruth s limit f es e = (printed : Bool) → Refuses s limit (use_of None printed) (Holds f es) e

-- why the truth of a resolved formula with quantifiers is not answered
abbrev pub EliminationStop : Context → ℕ → Tree → Point ℕ → StatementError → Type 0
EliminationStop c limit t q e = (d : Measured) × (e ≡ measured_refusal d) × StopsWith d (reference_at c limit q t)

-- why the truth of a resolved formula without quantifiers is not answered
abbrev pub ValueStop : Tree → Point ℕ → StatementError → Type 0
ValueStop t q e = ((e ≡ error.Overflow) × SomeAtomPassesAt t q) ⊎ (e ≡ error.Memory)
