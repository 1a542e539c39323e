-- What one piece adds to the lines before it.
use Rattle.std.specs.Prelude.{◌≡◌, ℕ, List, ◌++◌, Bool, ◌||◌}
use Rattle.program_meaning.specs.State.{State}
use Rattle.program_meaning.specs.Run.{AnswersPiece}

-- what one piece adds to the lines and to the flag of a refusal
pub record Adds (s : State) (limit : ℕ) (piece : List ℕ) (offset : ℕ) (ends : Bool) (next : State) (lines : List ℕ) (refusal : Bool) (all : List ℕ) (some : Bool) : Type 0 where
  pub added : List ℕ
  pub is_refused : Bool
  pub answer : AnswersPiece s limit piece offset ends added is_refused next
  pub lines_are : all ≡ lines ++ added
  pub refusal_is : some ≡ (refusal || is_refused)
