-- Scripts in SMT-LIB of commands that have no cause of a refusal.
use Rattle.std.specs.Prelude.{◌≢◌, ℕ, List, ◌∷◌, ◌++◌, false, Err}
use Rattle.smt_language.specs.declared.token.SmtCut.{SmtCut}
use Rattle.smt_language.specs.Commands.{AreCommands}
use Rattle.program_meaning.specs.declared.smt_error.SmtError.{SmtError}
use Rattle.program_meaning.specs.declared.smt_error.SmtError.TheVariants as error
use Rattle.program_meaning.specs.Replies.{Replies}
use Rattle.program_meaning.specs.SmtRun.{RunTo, bytes_of}
use Rattle.program_meaning.specs.SmtState.{State}

-- the command of these bytes may not be refused
abbrev pub IsUnrefusedCommand : State → ℕ → List ℕ → Type 0
IsUnrefusedCommand s limit bytes = (cause : SmtError) (next : State) → cause ≢ error.Memory → ¬ (Replies s limit bytes (Err cause) next)

-- each command is such a one, in each state that the commands before it may leave
abbrev pub IsSmtUnrefused : ℕ → List ℕ → Type 0
IsSmtUnrefused limit script =
    (front rest : List SmtCut) (cut : SmtCut) (s : State) (lines : List ℕ) → RunTo limit script front s lines false → AreCommands script (front ++ cut ∷ rest) → IsUnrefusedCommand s limit (bytes_of script cut)
