-- What a script is answered with: piece after piece, each in the state that the one before left.
use Rattle.std.specs.Prelude.{◌≡◌, ◌≢◌, ℕ, ◌-◌, ◌<◌, ◌≤◌, List, [], ◌++◌, length, take, drop, Bool, true, false, ◌||◌, Ok, Err}
use Rattle.language_meaning.specs.Statements.{StatementTree, Finish}
use Rattle.language_meaning.specs.Pieces.{HasNoTokenFrom, IsPiece}
use Rattle.language_meaning.specs.Statement.{Spells}
use Rattle.language_meaning.specs.OpenPiece.{IsOpen}
use Rattle.program_meaning.specs.declared.line.Line.{Line}
use Rattle.program_meaning.specs.declared.line.Line.TheVariants.{Finished}
use Rattle.program_meaning.specs.declared.line.StatementError.{StatementError}
use Rattle.program_meaning.specs.declared.line.StatementError.TheVariants as error
use Rattle.program_meaning.specs.Words.{word_of}
use Rattle.program_meaning.specs.State.{State, first_state}
use Rattle.program_meaning.specs.Reply.{Reply}
use Rattle.program_meaning.specs.Lines.{refusal_line, lines_of}

-- In this state the piece at this offset ends the script or does not, is answered with these lines, and is refused or not; and
-- the state after it.
pub data AnswersPiece (s : State) (limit : ℕ) (piece : List ℕ) (offset : ℕ) : Bool → List ℕ → Bool → State → Type 0 where
  finished : {next : State} → Reply s limit piece (Ok Finished) next → AnswersPiece s limit piece offset true [] false next
  answered : {next : State} (line : Line) → line ≢ Finished → Reply s limit piece (Ok line) next → AnswersPiece s limit piece offset false (lines_of line) false next
  refused : {next : State} (cause : StatementError) → cause ≢ error.Memory → Reply s limit piece (Err cause) next
      → AnswersPiece s limit piece offset false (refusal_line (word_of cause) offset) true next

-- the bytes of the script from the place start up to the place end
abbrev pub piece_bytes : List ℕ → ℕ → ℕ → List ℕ
piece_bytes script start end = take (end - start) (drop start script)

-- from this place on, in this state, the script is answered with these lines, and one of them is a refusal or none
pub data Run (limit : ℕ) (script : List ℕ) : ℕ → State → List ℕ → Bool → Type 0 where
  -- no token is left
  over : {from : ℕ} {s : State} → HasNoTokenFrom script from → Run limit script from s [] false
  -- a statement ends the script
  last : {from start end : ℕ} {s next : State} {lines : List ℕ} {refusal : Bool} → IsPiece script from start end
      → AnswersPiece s limit (piece_bytes script start end) start true lines refusal next → Run limit script from s lines refusal
  -- a statement, and those after it
  then : {from start end : ℕ} {s next : State} {lines rest all : List ℕ} {refusal more some : Bool} → IsPiece script from start end
      → AnswersPiece s limit (piece_bytes script start end) start false lines refusal next → Run limit script end next rest more
      → all ≡ lines ++ rest → some ≡ (refusal || more) → Run limit script from s all some

-- under this limit of nodes the whole script is answered with these lines, and one of them is a refusal or none
abbrev pub RunOf : ℕ → List ℕ → List ℕ → Bool → Type 0
RunOf limit script lines refusal = Run limit script 0 first_state lines refusal

-- the pieces up to this place leave this state, and are answered with these lines, of which one is a refusal or none; none of them ends the script
pub data RunTo (limit : ℕ) (script : List ℕ) : ℕ → State → List ℕ → Bool → Type 0 where
  begin : RunTo limit script 0 first_state [] false
  on : {to start end : ℕ} {s next : State} {lines more all : List ℕ} {refusal refused some : Bool} → RunTo limit script to s lines refusal → IsPiece script to start end
      → AnswersPiece s limit (piece_bytes script start end) start false more refused next → all ≡ lines ++ more → some ≡ (refusal || refused) → RunTo limit script end next all some

-- the same in every script that begins with these bytes
abbrev pub RunsTo : ℕ → List ℕ → ℕ → State → List ℕ → Bool → Type 0
RunsTo limit bytes to s lines refusal = (more : List ℕ) → RunTo limit (bytes ++ more) to s lines refusal

-- these are the lines of the pieces up to some place in the bytes, whatever comes after them
pub record RunsSo (limit : ℕ) (bytes lines : List ℕ) : Type 0 where
  pub to : ℕ
  pub within : to ≤ length bytes
  pub state : State
  pub refusal : Bool
  pub runs : RunsTo limit bytes to state lines refusal

-- these are the lines of every piece that ends in the bytes where more come
pub record RunsAll (limit : ℕ) (bytes lines : List ℕ) : Type 0 where
  pub to : ℕ
  pub state : State
  pub refusal : Bool
  pub runs : RunsTo limit bytes to state lines refusal
  pub no_more : IsOpen bytes to

-- ---- statements that end a script, within a number of bytes

-- the piece spells `end`, `bye` or `quit`
abbrev pub SpellsFinish : List ℕ → Type 0
SpellsFinish piece = (t : StatementTree) × Spells piece t × (t.action ≡ Finish)

-- from this place on, some statement ends the script, and it and those before it end within so many bytes
pub data HasEnd (longest : ℕ) (script : List ℕ) : ℕ → Type 0 where
  here : {from start end : ℕ} → IsPiece script from start end → end ≤ longest → SpellsFinish (piece_bytes script start end) → HasEnd longest script from
  later : {from start end : ℕ} → IsPiece script from start end → end ≤ longest → ¬ (SpellsFinish (piece_bytes script start end)) → HasEnd longest script end → HasEnd longest script from

-- a statement ends the script within so many bytes, so that these lines answer it and every script that begins with it
pub record IsEndedWith (longest limit : ℕ) (script lines : List ℕ) (refusal : Bool) : Type 0 where
  pub has_end : HasEnd longest script 0
  pub answers : (more : List ℕ) → RunOf limit (script ++ more) lines refusal

-- the script has more bytes, and no statement ends it within so many
pub record IsTooLong (longest : ℕ) (script : List ℕ) : Type 0 where
  pub long : longest < length script
  pub unended : ¬ (HasEnd longest script 0)
