use Rattle.std.proofs.Common.{◌≡◌, length}
use Rattle.redlog_reader.specs.Reader.{items_read, entry_read}
use Rattle.redlog_reader.proofs.Items.{onto}
use Rattle.redlog_reader.proofs.point.entries.Given as goal

abbrev pub invariant-entries : goal.invariant-entries
invariant-entries l = items_read entry_read l.fn.tokens ≡ onto (l.entries.items) (items_read entry_read l.start)

abbrev pub decreases-entries : goal.decreases-entries
decreases-entries l = length l.start
