use Rattle.std.proofs.Common.{ℕ, ◌≤◌, ◌-◌, length}
use Rattle.redlog_tokens.specs.OnePiece.{EndsFrom}
use Rattle.redlog_tokens.proofs.piece.piece_end.Given as goal

abbrev pub invariant-tokens : goal.invariant-tokens
invariant-tokens l = record {
  later : l.fn.from ≤ l.at;
  within : l.at ≤ length l.bytes;
  on : (end : ℕ) → EndsFrom l.bytes l.at end → EndsFrom l.bytes l.fn.from end;
}

abbrev pub decreases-tokens : goal.decreases-tokens
decreases-tokens l = length l.bytes - l.at
