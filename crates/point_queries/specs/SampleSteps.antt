-- What the steps of a sample give one another, in a state in which the variables of the command have their numbers.
use Rattle.std.specs.Prelude.{◌≡◌, ◌≤◌, ℕ, List, Bool, Option, Some, None, length}
use Rattle.logic_meaning.specs.Context.{Context}
use Rattle.logic_meaning.specs.Point.{Point}
use Rattle.logic_meaning.specs.Tree.{Tree}
use Rattle.logic_meaning.specs.ReferenceSample.{reference_sample}
use Rattle.reference_engine.specs.declared.measured.Measured.{Measured}
use Rattle.reference_engine.specs.Told.{StopsWith}
use Rattle.logic_meaning.specs.Values.{Value}
use Rattle.redlog_printer.specs.Within.{AreValuesWithin}
use Rattle.logic_meaning.specs.Writing.{text_limit}
use Rattle.language_meaning.specs.declared.entries.PointEntry.{PointEntry}
use Rattle.language_meaning.specs.Statements.{Sample}
use Rattle.language_meaning.specs.Trees.{FormulaTree}
use Rattle.program_meaning.specs.declared.line.StatementError.{StatementError}
use Rattle.program_meaning.specs.State.{State}
use Rattle.program_meaning.specs.Samples.{IsSampleAnswer, sample_text}
use Rattle.form_commands.specs.Replies.{use_of, Refuses}
use Rattle.form_commands.specs.Refusals.{measured_refusal}
use Rattle.program_meaning.specs.Meaning.{meaning}
use Rattle.program_meaning.specs.Causes.{IsAccepted}

-- the command is refused with the word under a limit of nodes, whether its line is printed or not
abbrev pub RefusesSample : State → ℕ → FormulaTree → List PointEntry → StatementError → Type 0
RefusesSample s limit f es e = (printed : Bool) → Refuses s limit (use_of None printed) (Sample f es) e

-- why there is none
abbrev pub SampleStop : Context → ℕ → Tree → Point ℕ → StatementError → Type 0
SampleStop c limit t q e = (d : Measured) × (e ≡ measured_refusal d) × StopsWith d (reference_sample c limit q t)

-- each name of a value, if there are values, has a number below this one
abbrev pub IsSampleWithin : ℕ → Option (List Value) → Type 0
IsSampleWithin n (Some values) = AreValuesWithin n values
IsSampleWithin n None = Unit {0}

-- No cause of a refusal applies, and the sample answers the formula as it is written. The names of its values have numbers, and its text is within the limit.
pub record IsWantedSample (s : State) (limit : ℕ) (f : FormulaTree) (es : List PointEntry) (sample : Option (List Value)) : Type 0 where
  pub clear : (printed : Bool) → IsAccepted (meaning (Sample f es)) s limit (use_of None printed)
  pub answer : IsSampleAnswer s f es sample
  pub within : IsSampleWithin (length s.names) sample
  pub short : length (sample_text s.names sample) ≤ text_limit
