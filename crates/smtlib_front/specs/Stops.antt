-- What becomes of a script in SMT-LIB, by why its answers stop.
use Rattle.std.specs.Prelude.{◌≡◌, ℕ, ◌⊎◌, List, Option, Bool, Result, Ok, Err}
use Rattle.program_meaning.specs.Ends.{Ends}
use Rattle.program_meaning.specs.Streams.{Rose}
use Rattle.qe_io.specs.declared.stop.AnswerStop.TheVariants as answer
use Rattle.qe_io.specs.declared.stop.StreamStop.{StreamStop}
use Rattle.qe_io.specs.declared.stop.StreamStop.TheVariants as stop
use Rattle.program_meaning.specs.SmtOutcome.{ReadSome, ReadTooMany, SmtAnswered, SmtAnsweredSo, SmtAnsweredFront}
use Rattle.program_meaning.specs.Reading.{GaveWithin, GavePast}

-- why a script is not read, by what the source has left and its count of faults, before and after
abbrev pub ReadStops : Option (List ℕ) → Option (List ℕ) → ℕ → ℕ → StreamStop → Type 0
ReadStops left later faults counted stop.Read = GaveWithin left later × Rose faults counted
ReadStops left later faults counted stop.Long = GavePast left later × (counted ≡ faults)
ReadStops left later faults counted (stop.Answer answer.Memory) = GaveWithin left later × (counted ≡ faults)
ReadStops left later faults counted (stop.Answer answer.Write) = ⊥

-- by whether some line is a refusal, or why there are no more
abbrev pub SmtOutcome : ℕ → Ends → Ends → Result Bool StreamStop → Type 0
SmtOutcome limit before after (Ok refusal) = SmtAnswered limit before after refusal
SmtOutcome limit before after (Err stop.Read) = ReadSome before after
SmtOutcome limit before after (Err stop.Long) = ReadTooMany before after
SmtOutcome limit before after (Err (stop.Answer answer.Memory)) = ReadSome before after ⊎ SmtAnsweredSo limit before after
SmtOutcome limit before after (Err (stop.Answer answer.Write)) = SmtAnsweredFront limit before after

-- the counts of failed reads and writes
abbrev pub SmtFaults : Ends → Ends → Result Bool StreamStop → Type 0
SmtFaults before after (Ok refusal) = (after.reads_failed ≡ before.reads_failed) × (after.writes_failed ≡ before.writes_failed)
SmtFaults before after (Err stop.Read) = Rose before.reads_failed after.reads_failed × (after.writes_failed ≡ before.writes_failed)
SmtFaults before after (Err stop.Long) = (after.reads_failed ≡ before.reads_failed) × (after.writes_failed ≡ before.writes_failed)
SmtFaults before after (Err (stop.Answer answer.Memory)) = (after.reads_failed ≡ before.reads_failed) × (after.writes_failed ≡ before.writes_failed)
SmtFaults before after (Err (stop.Answer answer.Write)) = (after.reads_failed ≡ before.reads_failed) × Rose before.writes_failed after.writes_failed
