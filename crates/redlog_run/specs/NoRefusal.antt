-- A script in which nothing has a cause of a refusal is answered without one.
use Rattle.std.specs.Prelude.{ℕ, List, true}
use Rattle.program_meaning.specs.Run.{RunOf}
use Rattle.program_meaning.specs.Unrefused.{IsUnrefused}

-- no run of the script has a refusal
abbrev pub HasNoRefusal : ℕ → List ℕ → Type 0
HasNoRefusal limit script = ¬ ((lines : List ℕ) × RunOf limit script lines true)

abbrev pub UnrefusedScriptsHaveNoRefusal : Type 0
UnrefusedScriptsHaveNoRefusal = (limit : ℕ) (script : List ℕ) → IsUnrefused limit script → HasNoRefusal limit script
