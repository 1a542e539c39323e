use Rattle.std.proofs.Common.{◌≡◌, length}
use Rattle.redlog_reader.specs.Reader.{anys_read}
use Rattle.redlog_reader.proofs.statement.anys.Given as goal

abbrev pub invariant-anys : goal.invariant-anys
invariant-anys l = anys_read l.fn.tokens ≡ anys_read l.left

abbrev pub decreases-anys : goal.decreases-anys
decreases-anys l = length l.left
