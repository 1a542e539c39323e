use Rattle.std.proofs.Common.{◌≡◌, ◌+◌, ◌≤◌, [], false}
use Rattle.program_meaning.specs.Outcome.{script_limit}
use Rattle.redlog_run.proofs.Claims.{Reading}
use Rattle.redlog_run.proofs.stream.answer_reads.Given as goal

-- what was read was answered, it grew in each turn and is within the limit, and nothing failed
abbrev pub invariant-loop-turn : goal.invariant-loop-turn
invariant-loop-turn g l =
    let source = g.S.Source in
    let sink = g.K.Sink in
    record {
      reading : Reading l.fn.limits.nodes (source.left l.fn.source) (source.left l.source) (sink.wrote l.fn.sink) (sink.wrote l.sink) l.left l.answering;
      none : l.answering.splitter.whole ≡ false;
      quiet : l.answering.answers.lines.items ≡ [];
      count : l.answering.splitter.fed + l.left ≡ script_limit;
      grows : l._turn + l.left ≤ script_limit;
      no_read_fault : source.faults l.source ≡ source.faults l.fn.source;
      no_write_fault : sink.faults l.sink ≡ sink.faults l.fn.sink;
    }
