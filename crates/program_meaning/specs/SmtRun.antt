-- What a script in SMT-LIB is answered with: command after command, each in the state that the one before left.
use Rattle.std.specs.Prelude.{◌≡◌, ◌≢◌, ℕ, ◌-◌, List, [], ◌∷◌, ◌++◌, take, drop, Bool, true, false, Ok, Err}
use Rattle.smt_language.specs.declared.token.SmtCut.{SmtCut}
use Rattle.smt_language.specs.Commands.{AreCommands}
use Rattle.program_meaning.specs.declared.smt_error.SmtError.{SmtError}
use Rattle.program_meaning.specs.declared.smt_error.SmtError.TheVariants as error
use Rattle.program_meaning.specs.declared.smt_reply.SmtReply.{SmtReply}
use Rattle.program_meaning.specs.declared.smt_reply.SmtReply.TheVariants as reply
use Rattle.program_meaning.specs.Replies.{Replies}
use Rattle.program_meaning.specs.SmtState.{State, first_state}
use Rattle.program_meaning.specs.Texts.{refusal_text}
use Rattle.program_meaning.specs.SmtWords.{word_of}

-- the line with its newline
abbrev pub line_of : List ℕ → List ℕ
line_of text = text ++ 10 ∷ []

-- the lines of an accepted command: one or none
abbrev pub lines_of : SmtReply → List ℕ
lines_of reply.Nothing = []
lines_of (reply.Printed text) = line_of text.items
lines_of reply.Finished = []

-- the bytes of a command
abbrev pub bytes_of : List ℕ → SmtCut → List ℕ
bytes_of script cut = take (cut.end - cut.start) (drop cut.start script)

-- These commands of the script, from the first on, leave this state, are answered with these lines, of which one is a refusal or none, and
-- none of them ends the script.
pub data RunTo (limit : ℕ) (script : List ℕ) : List SmtCut → State → List ℕ → Bool → Type 0 where
  -- no command
  begin : RunTo limit script [] first_state [] false
  -- one more, which is answered
  answered : {cuts : List SmtCut} (cut : SmtCut) {s next : State} {lines : List ℕ} {refusal : Bool} (r : SmtReply) → RunTo limit script cuts s lines refusal → r ≢ reply.Finished
      → Replies s limit (bytes_of script cut) (Ok r) next → RunTo limit script (cuts ++ cut ∷ []) next (lines ++ lines_of r) refusal
  -- one more, which is refused
  refused : {cuts : List SmtCut} (cut : SmtCut) {s next : State} {lines : List ℕ} {refusal : Bool} (cause : SmtError) → RunTo limit script cuts s lines refusal → cause ≢ error.Memory
      → Replies s limit (bytes_of script cut) (Err cause) next → RunTo limit script (cuts ++ cut ∷ []) next (lines ++ line_of (refusal_text (word_of cause) cut.start)) true

-- a command ends the script, and those after it are not answered
pub record EndsAfter (limit : ℕ) (script : List ℕ) (cuts : List SmtCut) (lines : List ℕ) (refusal : Bool) : Type 0 where
  pub front : List SmtCut
  pub last : SmtCut
  pub rest : List SmtCut
  pub cut : cuts ≡ front ++ last ∷ rest
  pub state : State
  pub next : State
  pub before : RunTo limit script front state lines refusal
  pub ends : Replies state limit (bytes_of script last) (Ok reply.Finished) next

-- the commands are all answered, or one of them ends the script
pub data RunOfCuts (limit : ℕ) (script : List ℕ) (cuts : List SmtCut) (lines : List ℕ) (refusal : Bool) : Type 0 where
  all : {s : State} → RunTo limit script cuts s lines refusal → RunOfCuts limit script cuts lines refusal
  ended : EndsAfter limit script cuts lines refusal → RunOfCuts limit script cuts lines refusal

-- under this limit of nodes the whole script is answered with these lines, and one of them is a refusal or none
pub record SmtRun (limit : ℕ) (script lines : List ℕ) (refusal : Bool) : Type 0 where
  pub cuts : List SmtCut
  pub are : AreCommands script cuts
  pub answers : RunOfCuts limit script cuts lines refusal

-- these are the lines of the commands up to some place
pub record SmtRunSo (limit : ℕ) (script lines : List ℕ) : Type 0 where
  pub front : List SmtCut
  pub rest : List SmtCut
  pub are : AreCommands script (front ++ rest)
  pub state : State
  pub refusal : Bool
  pub runs : RunTo limit script front state lines refusal
