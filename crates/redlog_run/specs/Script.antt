-- How a script is answered while it is read, step by step.
use Rattle.std.specs.Prelude.{◌≡◌, ℕ, ◌≤◌, List, [], ◌∷◌, ◌++◌, length, Option, Result, Ok, Err, Bool, true, false, ◌⊎◌, ◌&&◌, ◌==◌, if◌then◌else◌}
use Rattle.program_meaning.specs.Streams.{Took, Rose}
use Rattle.redlog_tokens.specs.Pieces.{Follows}
use Rattle.session_commands.specs.Seen.{state_in}
use Rattle.redlog_run.specs.declared.answer.Answering.{Answering}
use Rattle.redlog_run.specs.declared.answer.Answers.{Answers}
use Rattle.redlog_run.specs.declared.write.Pace.{Pace}
use Rattle.redlog_run.specs.declared.write.Pace.TheVariants as pace
use Rattle.qe_io.specs.declared.stop.StreamStop.{StreamStop}
use Rattle.qe_io.specs.declared.stop.StreamStop.TheVariants as stop
use Rattle.qe_io.specs.declared.stop.AnswerStop.{AnswerStop}
use Rattle.qe_io.specs.declared.stop.AnswerStop.TheVariants as answer
use Rattle.program_meaning.specs.declared.status.Status.{Status}
use Rattle.program_meaning.specs.declared.status.Status.TheVariants as status
use Rattle.program_meaning.specs.Ends.{TookFront}
use Rattle.program_meaning.specs.Run.{RunOf, RunsTo, RunsSo, IsEndedWith}

-- The splitter was fed these bytes, and these are the lines of the pieces that it handed out, which leave the state of the session.
pub record Stands (limit : ℕ) (bytes lines : List ℕ) (a : Answering) : Type 0 where
  pub to : ℕ
  pub follows : Follows bytes to a.splitter
  pub runs : RunsTo limit bytes to (state_in a.session) lines a.answers.refused
  pub limits : a.session.limits.nodes ≡ limit

-- A statement ends the script within the bytes, so that these are the lines of every script that begins with them. It has no line itself.
pub record IsEnded (limit : ℕ) (bytes lines : List ℕ) (refusal : Bool) : Type 0 where
  pub ends : (longest : ℕ) → length bytes ≤ longest → IsEndedWith longest limit bytes lines refusal
  pub runs : RunsSo limit bytes lines

-- after a step, which ends the script or does not
abbrev pub StandsOrEnds : Bool → ℕ → List ℕ → List ℕ → Answering → Type 0
StandsOrEnds false limit bytes lines a = Stands limit bytes lines a
StandsOrEnds true limit bytes lines a = IsEnded limit bytes lines a.answers.refused

-- the same, and the lines so far were written onto what the sink had taken first
pub record IsWritten (limit : ℕ) (bytes : List ℕ) (first now : Option (List ℕ)) (a : Answering) : Type 0 where
  pub lines : List ℕ
  pub stands : Stands limit bytes lines a
  pub took : Took first now lines

-- the lines are held as before, or were written and none is held
abbrev pub HoldsOrWrote : Option (List ℕ) → Option (List ℕ) → Answers → Answers → Type 0
HoldsOrWrote wrote after old new = ((after ≡ wrote) × (new ≡ old)) ⊎ (Took wrote after old.lines.items × (new.lines.items ≡ []))

-- lines are written one by one where `rl` stands among the bytes, as it does in each command
abbrev pub pace_of : List ℕ → Pace
pace_of [] = pace.Together
pace_of (b ∷ []) = pace.Together
pace_of (b ∷ c ∷ bs) = if (b == 114) && (c == 108) then pace.Each else pace_of (c ∷ bs)

-- the bytes in front, up to some place
pub record Part (bytes : List ℕ) : Type 0 where
  pub front : List ℕ
  pub rest : List ℕ
  pub whole : bytes ≡ front ++ rest

-- a statement ended the script within these bytes after others, and the lines were written
pub record EndsIn (limit : ℕ) (before bytes : List ℕ) (first now : Option (List ℕ)) (refusal : Bool) : Type 0 where
  pub part : Part bytes
  pub lines : List ℕ
  pub ended : IsEnded limit (before ++ part.front) lines refusal
  pub took : Took first now lines

-- memory ran out, and the lines of the pieces up to some place were written
pub record RunsOut (limit : ℕ) (before bytes : List ℕ) (first now : Option (List ℕ)) : Type 0 where
  pub part : Part bytes
  pub lines : List ℕ
  pub runs : RunsSo limit (before ++ part.front) lines
  pub took : Took first now lines

-- a write failed, and the lines of the pieces up to some place were written in front
pub record FailsIn (limit : ℕ) (before bytes : List ℕ) (first now : Option (List ℕ)) : Type 0 where
  pub part : Part bytes
  pub lines : List ℕ
  pub runs : RunsSo limit (before ++ part.front) lines
  pub took : TookFront first now lines

-- what becomes of bytes that come after others: they end the script or do not
abbrev pub AnswersBytes : ℕ → List ℕ → List ℕ → Option (List ℕ) → Option (List ℕ) → Answering → Result Bool AnswerStop → Type 0
AnswersBytes limit before bytes first now a (Ok false) = IsWritten limit (before ++ bytes) first now a
AnswersBytes limit before bytes first now a (Ok true) = EndsIn limit before bytes first now a.answers.refused
AnswersBytes limit before bytes first now a (Err answer.Memory) = RunsOut limit before bytes first now
AnswersBytes limit before bytes first now a (Err answer.Write) = FailsIn limit before bytes first now

-- what becomes of the last bytes of a script
abbrev pub AnswersLast : ℕ → List ℕ → Option (List ℕ) → Option (List ℕ) → Result Bool AnswerStop → Type 0
AnswersLast limit script first now (Ok refusal) = (lines : List ℕ) × RunOf limit script lines refusal × Took first now lines
AnswersLast limit script first now (Err answer.Memory) = (lines : List ℕ) × RunsSo limit script lines × Took first now lines
AnswersLast limit script first now (Err answer.Write) = (lines : List ℕ) × ((refusal : Bool) × RunOf limit script lines refusal) × TookFront first now lines

-- the status with which a script of the source ends
abbrev pub stop_status : StreamStop → Status
stop_status stop.Read = status.ReadFault
stop_status stop.Long = status.ScriptLong
stop_status (stop.Answer answer.Write) = status.WriteFault
stop_status (stop.Answer answer.Memory) = status.Memory

abbrev pub stream_status : Result Bool StreamStop → Status
stream_status (Ok false) = status.Done
stream_status (Ok true) = status.Refused
stream_status (Err e) = stop_status e

-- what becomes of an answer that is written, by what the sink had taken and its count of faults, before and after
abbrev pub Written : Option (List ℕ) → Option (List ℕ) → ℕ → ℕ → List ℕ → Bool → Status → Type 0
Written wrote after writes later text refused status.Done = (refused ≡ false) × Took wrote after text × (later ≡ writes)
Written wrote after writes later text refused status.Refused = (refused ≡ true) × Took wrote after text × (later ≡ writes)
Written wrote after writes later text refused status.WriteFault = TookFront wrote after text × Rose writes later
Written wrote after writes later text refused status.Usage = ⊥
Written wrote after writes later text refused status.ReadFault = ⊥
Written wrote after writes later text refused status.Memory = ⊥
Written wrote after writes later text refused status.ScriptLong = ⊥
