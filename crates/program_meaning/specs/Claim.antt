-- What the program promises, as one record. It is the contract of `run`, for every source and every sink.
use Rattle.std.specs.Prelude.{◌≡◌, ◌↔◌, List}
use Rattle.std.specs.declared.alloc.Global.{Global}
use Rattle.std.specs.declared.string.String.{String}
use Rattle.program_meaning.specs.declared.options.Options.{Options}
use Rattle.program_meaning.specs.CommandWords.{Spells}
use Rattle.program_meaning.specs.declared.status.Status.{Status}
use Rattle.program_meaning.specs.declared.status.Status.TheVariants as status
use Rattle.program_meaning.specs.Ends.{Ends, HasFailed}
use Rattle.program_meaning.specs.Outcome.{Faults, Outcome, Completes}

-- The program was called with these words; its ends were as before, and are as after; and it ends with this status.
pub record Claim (words : List (String Global)) (before after : Ends) (s : Status) : Type 0 where
  -- Usage is answered exactly where the words are not of the form that the program takes, and then nothing was read or written.
  pub usage : (s ≡ status.Usage) ↔ (¬ ((options : Options) × Spells words options))
  pub unused : s ≡ status.Usage → after ≡ before
  -- A fault is answered only where its count rose, and with every other status both counts are as they were.
  pub faults : Faults before after s
  -- What was read, and that the lines written answer it, as the status says: `Outcome` goes through the statuses.
  pub outcome : (options : Options) → Spells words options → Outcome options before after s
  -- Where neither end fails, a script whose statements have no cause of a refusal is answered, or memory runs out.
  pub complete : ¬ (HasFailed before after) → (options : Options) → Spells words options → Completes options before s
