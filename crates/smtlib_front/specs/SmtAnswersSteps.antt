-- How a script in SMT-LIB is answered, step by step.
use Rattle.std.specs.Prelude.{◌≡◌, ◌≢◌, ℕ, ◌⊎◌, List, Option, Bool, true, false, Result, Ok, Err}
use Rattle.program_meaning.specs.Ends.{TookFront}
use Rattle.program_meaning.specs.Streams.{Took}
use Rattle.qe_io.specs.declared.stop.AnswerStop.{AnswerStop}
use Rattle.qe_io.specs.declared.stop.AnswerStop.TheVariants as answer
use Rattle.program_meaning.specs.declared.smt_error.SmtError.{SmtError}
use Rattle.program_meaning.specs.declared.smt_error.SmtError.TheVariants as error
use Rattle.program_meaning.specs.declared.smt_reply.SmtReply.{SmtReply}
use Rattle.program_meaning.specs.declared.smt_reply.SmtReply.TheVariants as reply
use Rattle.program_meaning.specs.Replies.{Replies}
use Rattle.program_meaning.specs.SmtRun.{SmtRun, SmtRunSo, line_of, lines_of}
use Rattle.program_meaning.specs.SmtState.{State}
use Rattle.program_meaning.specs.Texts.{refusal_text}
use Rattle.program_meaning.specs.SmtWords.{word_of}
use Rattle.smtlib_front.specs.Represents.{Represents}
use Rattle.smtlib_front.specs.Seen.{Seen}
use Rattle.smtlib_front.specs.declared.command.Step.{Step}
use Rattle.smtlib_front.specs.declared.command.Step.TheVariants as step

-- In this state the command of these bytes, at this offset, is answered with these lines, is refused or not, and leaves the other state.
pub data Adds (s : State) (limit : ℕ) (bytes : List ℕ) (offset : ℕ) : List ℕ → Bool → State → Type 0 where
  answered : {next : State} (r : SmtReply) → r ≢ reply.Finished → Replies s limit bytes (Ok r) next → Adds s limit bytes offset (lines_of r) false next
  refused : {next : State} (cause : SmtError) → cause ≢ error.Memory → Replies s limit bytes (Err cause) next → Adds s limit bytes offset (line_of (refusal_text (word_of cause) offset)) true next

-- the lines of the command were written
pub record IsAdded (s : State) (limit : ℕ) (bytes : List ℕ) (offset : ℕ) (wrote after : Option (List ℕ)) (m : Seen) (refusal : Bool) : Type 0 where
  pub lines : List ℕ
  pub next : State
  pub adds : Adds s limit bytes offset lines refusal next
  pub took : Took wrote after lines
  pub represents : Represents m next

-- the command ends the script, and nothing was written
pub record IsLast (s : State) (limit : ℕ) (bytes : List ℕ) (wrote after : Option (List ℕ)) : Type 0 where
  pub next : State
  pub ends : Replies s limit bytes (Ok reply.Finished) next
  pub unwritten : after ≡ wrote

-- some bytes in front of the lines of the command were written
pub record IsFront (s : State) (limit : ℕ) (bytes : List ℕ) (offset : ℕ) (wrote after : Option (List ℕ)) : Type 0 where
  pub lines : List ℕ
  pub refusal : Bool
  pub next : State
  pub adds : Adds s limit bytes offset lines refusal next
  pub took : TookFront wrote after lines

-- what becomes of a command, by what the sink had taken, before and after
abbrev pub AnswersSo : State → ℕ → List ℕ → ℕ → Option (List ℕ) → Option (List ℕ) → Seen → Result Step AnswerStop → Type 0
AnswersSo s limit bytes offset wrote after m (Ok step.Accepted) = IsAdded s limit bytes offset wrote after m false
AnswersSo s limit bytes offset wrote after m (Ok (step.Refused cause)) = IsAdded s limit bytes offset wrote after m true
AnswersSo s limit bytes offset wrote after m (Ok step.Last) = IsLast s limit bytes wrote after
AnswersSo s limit bytes offset wrote after m (Err answer.Memory) = after ≡ wrote
AnswersSo s limit bytes offset wrote after m (Err answer.Write) = IsFront s limit bytes offset wrote after

-- what becomes of a whole script
abbrev pub AnswersScript : ℕ → List ℕ → Option (List ℕ) → Option (List ℕ) → Result Bool AnswerStop → Type 0
AnswersScript limit script wrote after (Ok refusal) = (lines : List ℕ) × SmtRun limit script lines refusal × Took wrote after lines
AnswersScript limit script wrote after (Err answer.Memory) = (after ≡ wrote) ⊎ ((lines : List ℕ) × SmtRunSo limit script lines × Took wrote after lines)
AnswersScript limit script wrote after (Err answer.Write) = (lines : List ℕ) × SmtRunSo limit script lines × TookFront wrote after lines
