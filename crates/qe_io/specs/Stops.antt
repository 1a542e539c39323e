-- Why answers stop.
use Rattle.std.specs.Prelude.{◌≡◌, ℕ}
use Rattle.qe_io.specs.declared.stop.AnswerStop.{AnswerStop}
use Rattle.qe_io.specs.declared.stop.AnswerStop.TheVariants as answer
use Rattle.program_meaning.specs.Streams.{Rose}

-- why answers stop, by the count of faults of the sink, before and after
abbrev pub AnswerCause : ℕ → ℕ → AnswerStop → Type 0
AnswerCause faults later answer.Write = Rose faults later
AnswerCause faults later answer.Memory = later ≡ faults
