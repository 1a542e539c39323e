use Rattle.redlog_reader.specs.Reader.{above_read}
use Rattle.redlog_reader.proofs.Items.{loop_more, above_less}
use Rattle.redlog_reader.proofs.constraints.numbers.Goals as goal

pub numbers-preserved : goal.numbers-preserved
numbers-preserved c =
    loop_more above_read above_less _ _ _ c.in-Some.number c.numbers.start.now c.in-Some.rest.now c.in-Some-after.more.now
    c.numbers.invariant c.in-Some.ensures c.in-Some-after.ensures.value c.in_ok-push.ensures.items
