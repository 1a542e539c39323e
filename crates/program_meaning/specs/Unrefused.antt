-- Scripts of statements that have no cause of a refusal.
use Rattle.std.specs.Prelude.{◌≢◌, ℕ, List, false}
use Rattle.language_meaning.specs.Statements.{StatementTree}
use Rattle.language_meaning.specs.Pieces.{IsPiece}
use Rattle.language_meaning.specs.Statement.{Spells}
use Rattle.program_meaning.specs.declared.line.StatementError.{StatementError}
use Rattle.program_meaning.specs.declared.line.StatementError.TheVariants as error
use Rattle.program_meaning.specs.State.{State}
use Rattle.program_meaning.specs.Reply.{RefusesStatement}
use Rattle.program_meaning.specs.Run.{RunTo, piece_bytes}

-- the piece spells a statement that may not be refused
pub record IsUnrefusedPiece (s : State) (limit : ℕ) (piece : List ℕ) : Type 0 where
  pub statement : StatementTree
  pub spelled : Spells piece statement
  pub unrefused : (e : StatementError) → e ≢ error.Memory → ¬ (RefusesStatement s limit statement e)

-- each piece is such a one, in each state that the pieces before it may leave
abbrev pub IsUnrefused : ℕ → List ℕ → Type 0
IsUnrefused limit script =
    (to start end : ℕ) (s : State) (lines : List ℕ) → RunTo limit script to s lines false → IsPiece script to start end → IsUnrefusedPiece s limit (piece_bytes script start end)

-- ---- what is proved
