-- What is seen of a source and a sink in memory.
use Rattle.std.specs.Prelude.{ℕ, ◌+◌, Bool, List, if◌then◌else◌, nat_lt, ◌==◌}
use Rattle.std.specs.List.{list_any}
use Rattle.program_meaning.specs.Streams.{last_count}

pub record MemoryBytes : Type 0 where
  -- the bytes still to come
  pub left : List ℕ
  -- how many bytes a call gives at most
  pub piece : ℕ
  -- the numbers of the calls that fail
  pub failing : List ℕ
  -- how many calls were made, and how many of them failed
  pub calls : ℕ
  pub faults : ℕ

pub record MemoryRoom : Type 0 where
  pub wrote : List ℕ
  -- for how many bytes there is room in all
  pub room : ℕ
  pub failing : List ℕ
  pub calls : ℕ
  pub faults : ℕ

-- one more, up to the last value of a 64-bit counter
abbrev pub counted : ℕ → ℕ
counted n = if nat_lt n last_count then n + 1 else n

-- the call with this number is one that fails
abbrev pub is_failing : List ℕ → ℕ → Bool
is_failing failing call = list_any (λ number. number == call) failing
