-- What the steps of the program promise one another.
use Rattle.std.specs.Prelude.{◌≡◌, ℕ, ◌≤◌, List, length, Option, Some, Bool, true, false}
use Rattle.program_meaning.specs.Streams.{Took, Rose}
use Rattle.program_meaning.specs.Generated.{generated, tally}
use Rattle.program_meaning.specs.declared.status.Status.{Status}
use Rattle.program_meaning.specs.declared.status.Status.TheVariants as status
use Rattle.program_meaning.specs.Ends.{Ends, HasFailed, TookFront}
use Rattle.program_meaning.specs.Outcome.{script_limit, OutcomeOfSource, OutcomeOfSmt, Faults, IsDoneOrMemory}
use Rattle.program_meaning.specs.Run.{RunOf}
use Rattle.program_meaning.specs.Unrefused.{IsUnrefused}
use Rattle.program_meaning.specs.Reading.{smt_limit}
use Rattle.program_meaning.specs.SmtUnrefused.{IsSmtUnrefused}

-- the claim of a script of the source
pub record ClaimOfSource (limit : ℕ) (before after : Ends) (s : Status) : Type 0 where
  pub faults : Faults before after s
  pub outcome : OutcomeOfSource limit before after s
  pub complete : ¬ (HasFailed before after) → (script : List ℕ) → before.left ≡ Some script → length script ≤ script_limit → IsUnrefused limit script → IsDoneOrMemory s

-- the claim of a script in SMT-LIB
pub record ClaimOfSmt (limit : ℕ) (before after : Ends) (s : Status) : Type 0 where
  pub faults : Faults before after s
  pub outcome : OutcomeOfSmt limit before after s
  pub complete : ¬ (HasFailed before after) → (script : List ℕ) → before.left ≡ Some script → length script ≤ smt_limit → IsSmtUnrefused limit script → IsDoneOrMemory s

-- this is the line that counts the answers of the generated script of n, and one of them is a refusal or none
abbrev pub IsTally : ℕ → ℕ → List ℕ → Bool → Type 0
IsTally limit n line refusal = (lines : List ℕ) × RunOf limit (generated n) lines refusal × (line ≡ tally lines)

-- what becomes of the generated script of n, by what the sink had taken and its count of faults, before and after
abbrev pub ClaimOfGenerated : ℕ → ℕ → Option (List ℕ) → Option (List ℕ) → ℕ → ℕ → Status → Type 0
ClaimOfGenerated limit n wrote after writes later status.Done = ((lines : List ℕ) × RunOf limit (generated n) lines false × Took wrote after (tally lines)) × (later ≡ writes)
ClaimOfGenerated limit n wrote after writes later status.Refused = ((lines : List ℕ) × RunOf limit (generated n) lines true × Took wrote after (tally lines)) × (later ≡ writes)
ClaimOfGenerated limit n wrote after writes later status.WriteFault =
    ((lines : List ℕ) × (refusal : Bool) × RunOf limit (generated n) lines refusal × TookFront wrote after (tally lines)) × Rose writes later
ClaimOfGenerated limit n wrote after writes later status.Memory = (after ≡ wrote) × (later ≡ writes)
ClaimOfGenerated limit n wrote after writes later status.Usage = ⊥
ClaimOfGenerated limit n wrote after writes later status.ReadFault = ⊥
ClaimOfGenerated limit n wrote after writes later status.ScriptLong = ⊥
