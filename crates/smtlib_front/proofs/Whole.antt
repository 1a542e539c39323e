-- What reads one after the other gave.
use Rattle.std.proofs.Common.{◌≡◌, ℕ, ◌+◌, ◌-◌, ◌<◌, ◌≤◌, List, ◌++◌, length, take, arith, length-append}
use Rattle.std.specs.Prelude.{Option}
use Rattle.std.proofs.lemmas.List.{length-take-le}
use Rattle.program_meaning.specs.Streams.{Gave}
use Rattle.qe_io.proofs.Joined.{gave_joined}
use Rattle.program_meaning.specs.Reading.{smt_limit, smt_read_size, GaveWithin, GavePast}

-- so many bytes of a read came after those so far
module _ (left mid later : Option (List ℕ)) (script into : List ℕ) (count : ℕ) (first : Gave left mid script) (next : Gave mid later (take count into)) (within : length script ≤ smt_limit) (some : count ≤ length into) where
  long : length (script ++ take count into) ≡ length script + count
  long = omega (arith, length-append script (take count into), length-take-le count into some)

  pub gave_within : count ≤ smt_limit - length script → GaveWithin left later
  gave_within few = record { bytes = script ++ take count into; gave = gave_joined left mid later script (take count into) first next; within = omega (arith, long, few, within) }

  pub gave_past : smt_limit - length script < count → length into ≤ smt_read_size → GavePast left later
  gave_past many small = record {
    bytes = script ++ take count into;
    gave = gave_joined left mid later script (take count into) first next;
    past = omega (arith, long, many, within);
    one_read = omega (arith, long, within, some, small);
  }
