use Rattle.redlog_reader.specs.Reader.{axis_read}
use Rattle.redlog_reader.proofs.Items.{loop_more, loop_less, axis_less}
use Rattle.redlog_reader.proofs.grid.axes.Goals as goal

pub axes-smaller : goal.axes-smaller
axes-smaller c =
    loop_less axis_read axis_less c.in-Some.axis c.axes.start.now c.in-Some.rest.now c.in-Some-after.more.now c.in-Some.ensures c.in-Some-after.ensures.value

pub axes-preserved : goal.axes-preserved
axes-preserved c =
    loop_more axis_read axis_less _ _ _ c.in-Some.axis c.axes.start.now c.in-Some.rest.now c.in-Some-after.more.now
    c.axes.invariant c.in-Some.ensures c.in-Some-after.ensures.value c.in_ok-push.ensures.items
