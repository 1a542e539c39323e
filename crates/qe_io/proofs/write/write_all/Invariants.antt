use Rattle.std.proofs.Common.{◌≡◌, ◌≤◌, ◌-◌, length, take}
use Rattle.program_meaning.specs.Streams.{Took}
use Rattle.qe_io.proofs.write.write_all.Given as goal

-- the sink took the bytes in front, and no write failed
abbrev pub invariant-loop-written : goal.invariant-loop-written
invariant-loop-written g l =
    let sink = g.K.Sink in
    record {
      within : l.written ≤ length l.bytes;
      took : Took (sink.wrote l.fn.sink) (sink.wrote l.sink) (take l.written l.bytes);
      no_fault : sink.faults l.sink ≡ sink.faults l.fn.sink;
    }

abbrev pub decreases-loop-written : goal.decreases-loop-written
decreases-loop-written g l = length l.bytes - l.written
