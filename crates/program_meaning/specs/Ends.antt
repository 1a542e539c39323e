-- What is seen of the two ends of the program, and what it read and wrote.
use Rattle.std.specs.Prelude.{◌≡◌, ℕ, List, ◌++◌, Option, ◌⊎◌}
use Rattle.program_meaning.specs.Streams.{Took, Rose}

-- what the source has still to give and what the sink has taken, where they tell it, and how often each has failed
pub record Ends : Type 0 where
  pub left : Option (List ℕ)
  pub reads_failed : ℕ
  pub wrote : Option (List ℕ)
  pub writes_failed : ℕ

-- the ends with these
abbrev pub ends : Option (List ℕ) → ℕ → Option (List ℕ) → ℕ → Ends
ends left reads wrote writes = record { left = left; reads_failed = reads; wrote = wrote; writes_failed = writes }

-- a read failed, or a write
abbrev pub HasFailed : Ends → Ends → Type 0
HasFailed before after = Rose before.reads_failed after.reads_failed ⊎ Rose before.writes_failed after.writes_failed

-- the sink took some bytes in front of these
abbrev pub TookFront : Option (List ℕ) → Option (List ℕ) → List ℕ → Type 0
TookFront old new bytes = (front : List ℕ) × (rest : List ℕ) × (bytes ≡ front ++ rest) × Took old new front
