use Rattle.std.proofs.Common.{◌≡◌, ◌+◌, take, drop}
use Rattle.redlog_tokens.specs.Spans.{span, comment_after}
use Rattle.redlog_tokens.proofs.span.front_of.Given as goal

abbrev pub invariant-loop-length : goal.invariant-loop-length
invariant-loop-length l = record {
  passed : span l.passed l.fn.comment l.bytes ≡ l.length + span l.passed l.comment (drop l.length l.bytes);
  comment : l.comment ≡ comment_after l.fn.comment (take l.length l.bytes);
}
