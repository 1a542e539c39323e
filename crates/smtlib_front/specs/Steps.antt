-- What becomes of a command that is read.
use Rattle.std.specs.Prelude.{◌≡◌, ◌⊎◌, ℕ, Result, Ok, Err}
use Rattle.smt_language.specs.Trees.{CommandTree}
use Rattle.program_meaning.specs.SmtState.{State}
use Rattle.program_meaning.specs.SmtCauses.{IsAccepted, IsFirst}
use Rattle.program_meaning.specs.Replies.{Answers}
use Rattle.program_meaning.specs.declared.smt_error.SmtError.{SmtError}
use Rattle.program_meaning.specs.declared.smt_error.SmtError.TheVariants as error
use Rattle.program_meaning.specs.declared.smt_reply.SmtReply.{SmtReply}
use Rattle.smtlib_front.specs.Seen.{Seen}
use Rattle.smtlib_front.specs.Represents.{Represents}

-- it is answered, and what is kept after it is the next state
pub record IsAnswered (s : State) (limit : ℕ) (k : CommandTree) (r : SmtReply) (m : Seen) : Type 0 where
  pub next : State
  pub accepted : IsAccepted s limit k
  pub answers : Answers s limit k r next
  pub represents : Represents m next

-- it is refused for the first cause that applies, or memory ran out; the state stays
pub record IsRefused (s : State) (limit : ℕ) (k : CommandTree) (e : SmtError) (m : Seen) : Type 0 where
  pub cause : (e ≡ error.Memory) ⊎ IsFirst s limit e k
  pub represents : Represents m s

-- the one or the other
abbrev pub Does : State → ℕ → CommandTree → Result SmtReply SmtError → Seen → Type 0
Does s limit k (Ok r) m = IsAnswered s limit k r m
Does s limit k (Err e) m = IsRefused s limit k e m
