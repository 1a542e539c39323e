use Rattle.std.proofs.Common.{◌≡◌}
use Rattle.smtlib_front.proofs.Scripts.{Answering}
use Rattle.smtlib_front.proofs.script.answer_script.Given as goal

-- the commands so far are answered, and no write failed
abbrev pub invariant-cuts : goal.invariant-cuts
invariant-cuts g l =
    let sink = g.K.Sink in
    record {
      answering : Answering l.fn.limits.nodes l.script l.cut-items l.cut-index (sink.wrote l.fn.sink) (sink.wrote l.sink) l.smt l.refused;
      limits : l.smt.limits.nodes ≡ l.fn.limits.nodes;
      no_fault : sink.faults l.sink ≡ sink.faults l.fn.sink;
    }
