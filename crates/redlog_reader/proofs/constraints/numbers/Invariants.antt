use Rattle.std.proofs.Common.{◌≡◌, length}
use Rattle.redlog_reader.specs.Reader.{items_read, above_read}
use Rattle.redlog_reader.proofs.Items.{onto}
use Rattle.redlog_reader.proofs.constraints.numbers.Given as goal

abbrev pub invariant-numbers : goal.invariant-numbers
invariant-numbers l = items_read above_read l.fn.tokens ≡ onto (l.numbers.items) (items_read above_read l.start)

abbrev pub decreases-numbers : goal.decreases-numbers
decreases-numbers l = length l.start
