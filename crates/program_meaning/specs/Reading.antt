-- What is read of a source that gives a script in SMT-LIB.
use Rattle.std.specs.Prelude.{ℕ, ◌+◌, ◌<◌, ◌≤◌, ◌^◌, List, length, Option}
use Rattle.program_meaning.specs.Streams.{Gave, IsAtEnd}

-- a script in SMT-LIB is at most so long, in bytes
abbrev pub smt_limit : ℕ
smt_limit = 2 ^ 24

-- at most so many bytes are read at once
abbrev pub smt_read_size : ℕ
smt_read_size = 16384

-- the source gave this script, which is within the limit, and is at its end
pub record IsRead (left later : Option (List ℕ)) (script : List ℕ) : Type 0 where
  pub gave : Gave left later script
  pub at_end : IsAtEnd later
  pub within : length script ≤ smt_limit

-- the source gave some bytes within the limit
pub record GaveWithin (left later : Option (List ℕ)) : Type 0 where
  pub bytes : List ℕ
  pub gave : Gave left later bytes
  pub within : length bytes ≤ smt_limit

-- the source gave more bytes than the limit, by one read at most
pub record GavePast (left later : Option (List ℕ)) : Type 0 where
  pub bytes : List ℕ
  pub gave : Gave left later bytes
  pub past : smt_limit < length bytes
  pub one_read : length bytes ≤ smt_limit + smt_read_size
