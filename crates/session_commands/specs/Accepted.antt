-- Statements that are never refused.
use Rattle.std.specs.Prelude.{◌≢◌, ℕ, Bool}
use Rattle.logic_meaning.specs.Formula.{Yes}
use Rattle.language_meaning.specs.Holes.{alone}
use Rattle.language_meaning.specs.Statements.{Echo, Say, StatementTree}
use Rattle.program_meaning.specs.declared.line.StatementError.{StatementError}
use Rattle.program_meaning.specs.declared.line.StatementError.TheVariants as error
use Rattle.program_meaning.specs.State.{State}
use Rattle.program_meaning.specs.Reply.{RefusesStatement}

-- in every state and under every limit of nodes there is no cause to refuse the statement; only memory may run out
abbrev pub IsNeverRefused : StatementTree → Type 0
IsNeverRefused t = (s : State) (limit : ℕ) (e : StatementError) → e ≢ error.Memory → ¬ (RefusesStatement s limit t e)

-- ---- what is proved

-- the statement `true`
abbrev pub TruthIsNeverRefused : Type 0
TruthIsNeverRefused = (printed : Bool) → IsNeverRefused (record { action = Say (Echo Yes); printed = printed; inner = alone })
