use Rattle.std.proofs.Common.{◌≡◌, Err, sym, subst, rules}
use Rattle.std.specs.Prelude.{IfErr}
use Rattle.session_state.specs.Keeping.{state_of}
use Rattle.session_commands.specs.Through.{IsStatementStopped}
use Rattle.session_commands.proofs.GivenSteps.{on_err}
use Rattle.session_commands.proofs.ThroughLemmas.{stopped_inside, answered_through, stopped_through, leaves_then}
use Rattle.session_commands.proofs.session.answer_all.Goals as goal

pub returns-in_err-answer_inside-clause-refusal : goal.returns-in_err-answer_inside-clause-refusal
returns-in_err-answer_inside-clause-refusal g c =
    let t = c.args.statement.now in
    let s = state_of c.args.state.now in
    let limit = c.args.workshop.now.limits.nodes in
    let e : c.from_residual.result ≡ Err c.in_err-answer_inside.field-0.0 = search rules in
    subst (λ r. IfErr r (IsStatementStopped t s limit)) (sym e) (stopped_inside t c.requires.written s limit c.in_err-answer_inside.field-0.0 c.in_err-answer_inside.ensures.stopped)

pub returns-clause-answer : goal.returns-clause-answer
returns-clause-answer g c =
    answered_through c.args.statement.now c.requires.written (state_of c.args.state.now) c.args.workshop.now.limits.nodes (state_of c.answer_inside.new.state) c.in_ok-answer_inside.ensures.answered c.act.result (state_of c.act.new.state) c.act.ensures.answer

pub returns-clause-refusal : goal.returns-clause-refusal
returns-clause-refusal g c =
    stopped_through c.args.statement.now c.requires.written (state_of c.args.state.now) c.args.workshop.now.limits.nodes (state_of c.answer_inside.new.state) c.in_ok-answer_inside.ensures.answered c.act.result c.act.ensures.refusal

pub returns-clause-left : goal.returns-clause-left
returns-clause-left g c = on_err c.act.result (leaves_then c.args.state.now c.answer_inside.new.state c.act.new.state c.answer_inside.ensures.left) c.act.ensures.grown
