-- What was read and written where a script in SMT-LIB is answered.
use Rattle.std.specs.Prelude.{◌≡◌, ℕ, List, Bool}
use Rattle.program_meaning.specs.Ends.{Ends, TookFront}
use Rattle.program_meaning.specs.Streams.{Took}
use Rattle.program_meaning.specs.SmtRun.{SmtRun, SmtRunSo}
use Rattle.program_meaning.specs.Reading.{IsRead, GaveWithin, GavePast}

-- the source gave some bytes within the limit, and nothing was written
pub record ReadSome (before after : Ends) : Type 0 where
  pub given : GaveWithin before.left after.left
  pub unwritten : after.wrote ≡ before.wrote

-- the source gave more bytes than the limit, and nothing was written
pub record ReadTooMany (before after : Ends) : Type 0 where
  pub given : GavePast before.left after.left
  pub unwritten : after.wrote ≡ before.wrote

-- The script was read to the end of the source before the first line was written, and these lines answer it.
pub record SmtAnswered (limit : ℕ) (before after : Ends) (refusal : Bool) : Type 0 where
  pub script : List ℕ
  pub lines : List ℕ
  pub read : IsRead before.left after.left script
  pub answered : SmtRun limit script lines refusal
  pub wrote : Took before.wrote after.wrote lines

-- The script was read to the end of the source, and the lines of its commands up to some place were written.
pub record SmtAnsweredSo (limit : ℕ) (before after : Ends) : Type 0 where
  pub script : List ℕ
  pub lines : List ℕ
  pub read : IsRead before.left after.left script
  pub answered : SmtRunSo limit script lines
  pub wrote : Took before.wrote after.wrote lines

-- The script was read to the end of the source, and some bytes in front of the lines of its commands up to some place were written.
pub record SmtAnsweredFront (limit : ℕ) (before after : Ends) : Type 0 where
  pub script : List ℕ
  pub lines : List ℕ
  pub read : IsRead before.left after.left script
  pub answered : SmtRunSo limit script lines
  pub wrote : TookFront before.wrote after.wrote lines
