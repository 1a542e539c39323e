use Rattle.std.proofs.Common.{◌≡◌, length}
use Rattle.redlog_reader.specs.Reader.{items_read, axis_read}
use Rattle.redlog_reader.proofs.Items.{onto}
use Rattle.redlog_reader.proofs.grid.axes.Given as goal

abbrev pub invariant-axes : goal.invariant-axes
invariant-axes l = items_read axis_read l.fn.tokens ≡ onto (l.axes.items) (items_read axis_read l.start)

abbrev pub decreases-axes : goal.decreases-axes
decreases-axes l = length l.start
