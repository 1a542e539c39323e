use Rattle.std.proofs.Common.{◌≡◌, ◌≤◌, ◌-◌, length}
use Rattle.program_meaning.specs.Streams.{Gave}
use Rattle.program_meaning.specs.Reading.{smt_limit}
use Rattle.smtlib_front.proofs.reading.read_whole.Given as goal

-- the source gave the bytes so far, which are within the limit, and no read failed
abbrev pub invariant-reads : goal.invariant-reads
invariant-reads g l =
    let source = g.S.Source in
    record {
      gave : Gave (source.left l.fn.source) (source.left l.source) l.script.items;
      within : length l.script.items ≤ smt_limit;
      no_fault : source.faults l.source ≡ source.faults l.fn.source;
    }

abbrev pub decreases-reads : goal.decreases-reads
decreases-reads g l = smt_limit - length l.script.items
