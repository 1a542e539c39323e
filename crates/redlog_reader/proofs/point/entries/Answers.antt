use Rattle.redlog_reader.specs.Reader.{entry_read}
use Rattle.redlog_reader.proofs.Items.{loop_more, entry_less}
use Rattle.redlog_reader.proofs.point.entries.Goals as goal

pub entries-preserved : goal.entries-preserved
entries-preserved c =
    loop_more entry_read entry_less _ _ _ c.in-Some.entry c.entries.start.now c.in-Some.rest.now c.in-Some-after.more.now
    c.entries.invariant c.in-Some.ensures c.in-Some-after.ensures.value c.in_ok-push.ensures.items
