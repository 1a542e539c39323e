-- A script in SMT-LIB in which nothing has a cause of a refusal is answered without one.
use Rattle.std.specs.Prelude.{ℕ, List, true}
use Rattle.program_meaning.specs.SmtRun.{SmtRun}
use Rattle.program_meaning.specs.SmtUnrefused.{IsSmtUnrefused}

-- no run of the script has a refusal
abbrev pub HasNoSmtRefusal : ℕ → List ℕ → Type 0
HasNoSmtRefusal limit script = ¬ ((lines : List ℕ) × SmtRun limit script lines true)

-- a script of commands that have no cause of a refusal is answered without one
abbrev pub UnrefusedSmtScriptsHaveNoRefusal : Type 0
UnrefusedSmtScriptsHaveNoRefusal = (limit : ℕ) (script : List ℕ) → IsSmtUnrefused limit script → HasNoSmtRefusal limit script
