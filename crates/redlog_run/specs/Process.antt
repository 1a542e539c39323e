-- What a process ends with.
use Rattle.std.specs.Prelude.{◌≡◌, None, Result, Ok, Err}
use Rattle.std.specs.Process.{exit_status}
use Rattle.std.specs.declared.alloc.Global.{Global}
use Rattle.std.specs.declared.process.ExitCode.{ExitCode}
use Rattle.std.specs.declared.string.String.{String}
use Rattle.std.specs.declared.vec.Vec.{Vec}
use Rattle.redlog_run.specs.declared.process.WordsError.{WordsError}
use Rattle.redlog_run.specs.declared.process.WordsError.TheVariants as words
use Rattle.program_meaning.specs.declared.status.Status.{Status}
use Rattle.program_meaning.specs.declared.status.Status.TheVariants as status
use Rattle.program_meaning.specs.Claim.{Claim}
use Rattle.program_meaning.specs.Ends.{Ends}
use Rattle.program_meaning.specs.Numbers.{number_of}

-- the code is the number of a status of which this is true
abbrev pub EndsWith : ExitCode → (Status → Type 0) → Type 0
EndsWith code P = (s : Status) × (exit_status code ≡ number_of s) × P s

-- the status where the words were not taken
abbrev pub words_status : WordsError → Status
words_status words.NoText = status.Usage
words_status words.Memory = status.Memory

-- the claim holds of the words, or they were not taken, and then nothing was read or written
abbrev pub Finishes : Result (Vec (String Global) Global) WordsError → Ends → Ends → Status → Type 0
Finishes (Ok words) before after s = Claim words.items before after s
Finishes (Err e) before after s = (s ≡ words_status e) × (after ≡ before)

-- ends that tell nothing and have not failed
abbrev pub silent_ends : Ends
silent_ends = record { left = None; reads_failed = 0; wrote = None; writes_failed = 0 }

-- so a process ends, for the words that it was given
abbrev pub EndsProcess : Status → Type 0
EndsProcess s = (words : Result (Vec (String Global) Global) WordsError) × (after : Ends) × Finishes words silent_ends after s
