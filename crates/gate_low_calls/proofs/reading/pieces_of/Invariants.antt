use Rattle.std.proofs.Common.{◌≤◌, length}
use Rattle.gate_low_calls.proofs.reading.pieces_of.Given as goal

-- the next piece begins in the script
abbrev pub invariant-pieces : goal.invariant-pieces
invariant-pieces l = l.from ≤ length l.script
