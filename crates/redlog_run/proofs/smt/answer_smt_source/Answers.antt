use Rattle.std.proofs.Common.{sym, subst}
use Rattle.program_meaning.specs.Ends.{ends}
use Rattle.redlog_run.specs.Steps.{ClaimOfSmt}
use Rattle.redlog_run.proofs.Claims.{smt_claim}
use Rattle.redlog_run.proofs.smt.answer_smt_source.Goals as goal

pub returns : goal.returns
returns g c =
    let source = g.S.Source in
    let sink = g.K.Sink in
    let before = ends (source.left c.args.source.now) (source.faults c.args.source.now) (sink.wrote c.args.sink.now) (sink.faults c.args.sink.now) in
    let after = ends (source.left c.answer_smt.new.source) (source.faults c.answer_smt.new.source) (sink.wrote c.answer_smt.new.sink) (sink.faults c.answer_smt.new.sink) in
    subst (ClaimOfSmt c.args.limits.nodes before after) (sym c.stream_status.ensures)
    (smt_claim c.args.limits.nodes before after c.answer_smt.result c.answer_smt.ensures.outcome c.answer_smt.ensures.faults)
