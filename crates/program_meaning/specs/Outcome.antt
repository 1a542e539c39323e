-- What was read and written, by the status that the program ends with.
use Rattle.std.specs.Prelude.{◌≡◌, ℕ, ◌^◌, ◌≤◌, ◌⊎◌, List, [], ◌++◌, length, Option, Some, None, unwrap_or, Bool, true, false}
use Rattle.program_meaning.specs.declared.options.Language.{Language}
use Rattle.program_meaning.specs.declared.options.Language.TheVariants.{Redlog, SmtLib}
use Rattle.program_meaning.specs.declared.options.Options.{Options}
use Rattle.program_meaning.specs.Streams.{Gave, IsAtEnd, Took, Rose}
use Rattle.program_meaning.specs.Generated.{generated, tally}
use Rattle.program_meaning.specs.declared.status.Status.{Status}
use Rattle.program_meaning.specs.declared.status.Status.TheVariants as status
use Rattle.program_meaning.specs.Ends.{Ends, TookFront}
use Rattle.program_meaning.specs.Run.{RunOf, RunsSo, RunsAll, IsEndedWith, IsTooLong}
use Rattle.program_meaning.specs.Unrefused.{IsUnrefused}
use Rattle.program_meaning.specs.SmtOutcome.{ReadSome, ReadTooMany, SmtAnswered, SmtAnsweredSo, SmtAnsweredFront}
use Rattle.program_meaning.specs.Reading.{smt_limit}
use Rattle.program_meaning.specs.SmtUnrefused.{IsSmtUnrefused}

-- a script is at most so long, in bytes
abbrev pub script_limit : ℕ
script_limit = 2 ^ 40

-- at most so many bytes are read at once
abbrev pub read_size : ℕ
read_size = 16384

-- the limit of nodes of the session that these options give
abbrev pub node_limit : Options → ℕ
node_limit options = unwrap_or options.nodes 1000000

-- ---- a script of the source

-- What the source gave: a script within the limit, and the bytes of one read at most that were not looked at.
pub record Given (before after : Ends) : Type 0 where
  pub script : List ℕ
  pub ahead : List ℕ
  pub gave : Gave before.left after.left (script ++ ahead)
  pub within : length script ≤ script_limit
  pub one_read : length ahead ≤ read_size

-- the script was read to the end of the source, and these lines answer it
pub record IsWhole (limit : ℕ) (after : Ends) (script ahead lines : List ℕ) (refusal : Bool) : Type 0 where
  pub none_ahead : ahead ≡ []
  pub at_end : IsAtEnd after.left
  pub answered : RunOf limit script lines refusal

-- The lines answer the script: it was read to the end of the source, or a statement ends it.
pub record Answered (limit : ℕ) (before after : Ends) (lines : List ℕ) (refusal : Bool) : Type 0 where
  pub given : Given before after
  pub answered : IsWhole limit after given.script given.ahead lines refusal ⊎ IsEndedWith script_limit limit given.script lines refusal

-- the lines are those of every piece that ends in what was read
pub record AnsweredAll (limit : ℕ) (before after : Ends) (lines : List ℕ) : Type 0 where
  pub given : Given before after
  pub none_ahead : given.ahead ≡ []
  pub answered : RunsAll limit given.script lines

-- The source gave a script that is too long, and the lines are those of every piece that ends within the limit.
pub record GaveTooMany (limit : ℕ) (before after : Ends) (lines : List ℕ) : Type 0 where
  pub given : Given before after
  pub full : length given.script ≡ script_limit
  pub too_long : IsTooLong script_limit (given.script ++ given.ahead)
  pub answered : RunsAll limit given.script lines

-- the lines are those of the pieces up to some place in what was read
pub record AnsweredSo (limit : ℕ) (before after : Ends) (lines : List ℕ) : Type 0 where
  pub given : Given before after
  pub answered : RunsSo limit given.script lines

-- the same, or they are the lines of the whole script
pub record AnsweredSome (limit : ℕ) (before after : Ends) (lines : List ℕ) : Type 0 where
  pub given : Given before after
  pub answered : RunsSo limit given.script lines ⊎ ((refusal : Bool) × IsWhole limit after given.script given.ahead lines refusal)

-- under a limit of nodes
abbrev pub OutcomeOfSource : ℕ → Ends → Ends → Status → Type 0
OutcomeOfSource limit before after status.Done = (lines : List ℕ) × Answered limit before after lines false × Took before.wrote after.wrote lines
OutcomeOfSource limit before after status.Refused = (lines : List ℕ) × Answered limit before after lines true × Took before.wrote after.wrote lines
OutcomeOfSource limit before after status.ReadFault = (lines : List ℕ) × AnsweredAll limit before after lines × Took before.wrote after.wrote lines
OutcomeOfSource limit before after status.ScriptLong = (lines : List ℕ) × GaveTooMany limit before after lines × Took before.wrote after.wrote lines
OutcomeOfSource limit before after status.Memory = (lines : List ℕ) × AnsweredSo limit before after lines × Took before.wrote after.wrote lines
OutcomeOfSource limit before after status.WriteFault = (lines : List ℕ) × AnsweredSome limit before after lines × TookFront before.wrote after.wrote lines
OutcomeOfSource limit before after status.Usage = ⊥

-- ---- a generated script: nothing is read, and one line is written, which counts the lines of the answer to the generated script of n

-- under a limit of nodes: the source is as before, and the line is written, or a front of it, or nothing
abbrev pub OutcomeGenerated : ℕ → ℕ → Ends → Ends → Status → Type 0
OutcomeGenerated limit n before after status.Done = (after.left ≡ before.left) × ((lines : List ℕ) × RunOf limit (generated n) lines false × Took before.wrote after.wrote (tally lines))
OutcomeGenerated limit n before after status.Refused = (after.left ≡ before.left) × ((lines : List ℕ) × RunOf limit (generated n) lines true × Took before.wrote after.wrote (tally lines))
OutcomeGenerated limit n before after status.WriteFault =
    (after.left ≡ before.left) × ((lines : List ℕ) × (refusal : Bool) × RunOf limit (generated n) lines refusal × TookFront before.wrote after.wrote (tally lines))
OutcomeGenerated limit n before after status.Memory = (after.left ≡ before.left) × (after.wrote ≡ before.wrote)
OutcomeGenerated limit n before after status.ReadFault = ⊥
OutcomeGenerated limit n before after status.ScriptLong = ⊥
OutcomeGenerated limit n before after status.Usage = ⊥

-- ---- a script in SMT-LIB of the source: it is read whole before the first line is written

-- under a limit of nodes
abbrev pub OutcomeOfSmt : ℕ → Ends → Ends → Status → Type 0
OutcomeOfSmt limit before after status.Done = SmtAnswered limit before after false
OutcomeOfSmt limit before after status.Refused = SmtAnswered limit before after true
OutcomeOfSmt limit before after status.ReadFault = ReadSome before after
OutcomeOfSmt limit before after status.ScriptLong = ReadTooMany before after
OutcomeOfSmt limit before after status.Memory = ReadSome before after ⊎ SmtAnsweredSo limit before after
OutcomeOfSmt limit before after status.WriteFault = SmtAnsweredFront limit before after
OutcomeOfSmt limit before after status.Usage = ⊥

-- ---- each of the three

-- the outcome of the script in SMT-LIB under the flag, of the generated script where a number is given, else of the script of the source
abbrev pub outcome_of : ℕ → Language → Option ℕ → Ends → Ends → Status → Type 0
outcome_of limit SmtLib generate before after s = OutcomeOfSmt limit before after s
outcome_of limit Redlog None before after s = OutcomeOfSource limit before after s
outcome_of limit Redlog (Some n) before after s = OutcomeGenerated limit n before after s

-- what was read and written under these options
abbrev pub Outcome : Options → Ends → Ends → Status → Type 0
Outcome options before after s = outcome_of (node_limit options) options.language options.generate before after s

-- by the counts of failed reads and writes
abbrev pub Faults : Ends → Ends → Status → Type 0
Faults before after status.ReadFault = Rose before.reads_failed after.reads_failed × (after.writes_failed ≡ before.writes_failed)
Faults before after status.WriteFault = (after.reads_failed ≡ before.reads_failed) × Rose before.writes_failed after.writes_failed
Faults before after status.Done = (after.reads_failed ≡ before.reads_failed) × (after.writes_failed ≡ before.writes_failed)
Faults before after status.Refused = (after.reads_failed ≡ before.reads_failed) × (after.writes_failed ≡ before.writes_failed)
Faults before after status.Usage = (after.reads_failed ≡ before.reads_failed) × (after.writes_failed ≡ before.writes_failed)
Faults before after status.Memory = (after.reads_failed ≡ before.reads_failed) × (after.writes_failed ≡ before.writes_failed)
Faults before after status.ScriptLong = (after.reads_failed ≡ before.reads_failed) × (after.writes_failed ≡ before.writes_failed)

-- ---- what is answered

-- all is answered and nothing refused, or memory ran out
abbrev pub IsDoneOrMemory : Status → Type 0
IsDoneOrMemory s = (s ≡ status.Done) ⊎ (s ≡ status.Memory)

-- the script of a source that tells it, within the limit of its language, or the generated one: if no statement or command of it has a cause of
-- a refusal, it is answered, or memory runs out
abbrev pub completes_of : ℕ → Language → Option ℕ → Ends → Status → Type 0
completes_of limit SmtLib generate before s = (script : List ℕ) → before.left ≡ Some script → length script ≤ smt_limit → IsSmtUnrefused limit script → IsDoneOrMemory s
completes_of limit Redlog None before s = (script : List ℕ) → before.left ≡ Some script → length script ≤ script_limit → IsUnrefused limit script → IsDoneOrMemory s
completes_of limit Redlog (Some n) before s = IsUnrefused limit (generated n) → IsDoneOrMemory s

-- under these options, a script in which nothing has a cause of a refusal is answered, or memory runs out
abbrev pub Completes : Options → Ends → Status → Type 0
Completes options before s = completes_of (node_limit options) options.language options.generate before s
