-- The claim under what the words of the command line say, when they say it.
use Rattle.std.specs.Prelude.{◌≡◌}
use Rattle.program_meaning.specs.declared.options.Options.{Options}
use Rattle.program_meaning.specs.declared.status.Status.{Status}
use Rattle.program_meaning.specs.declared.status.Status.TheVariants as status
use Rattle.program_meaning.specs.Ends.{Ends, HasFailed}
use Rattle.program_meaning.specs.Outcome.{Faults, Outcome, Completes}

-- what is said once the words have given these options
pub record ClaimUnder (options : Options) (before after : Ends) (s : Status) : Type 0 where
  pub used : ¬ (s ≡ status.Usage)
  pub faults : Faults before after s
  pub outcome : Outcome options before after s
  pub complete : ¬ (HasFailed before after) → Completes options before s
