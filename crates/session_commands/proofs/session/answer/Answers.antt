use Rattle.std.proofs.Common.{◌∙◌, ap, take, Ok}
use Rattle.session_state.specs.Keeping.{state_of}
use Rattle.session_commands.proofs.InnerSteps.{settled_session}
use Rattle.session_commands.proofs.ThroughLemmas.{statement_answer, left_session, left_state}
use Rattle.session_commands.proofs.session.answer.Goals as goal

pub returns-in-Ok-clause-session : goal.returns-in-Ok-clause-session
returns-in-Ok-clause-session g c = settled_session c.answer_all-result.new.state c.clear.new.self c.in-Ok.ensures.session c.clear.ensures.items

pub returns-in-Ok-clause-answer : goal.returns-in-Ok-clause-answer
returns-in-Ok-clause-answer g c =
    statement_answer c.answer_all-result.new.state c.clear.new.self c.clear.ensures.items c.args.statement.now (state_of c.args.state.now) c.args.workshop.now.limits.nodes (Ok c.in-Ok.line) c.in-Ok.ensures.answer

pub returns-in-Err-clause-session : goal.returns-in-Err-clause-session
returns-in-Err-clause-session g c =
    let d = c.answer_all-result.new.state in
    let names = c.keep_first.ensures ∙ ap (λ n. take n d.names) c.count-count.ensures in
    left_session d c.clear.new.self c.clear.ensures.items c.args.state.now c.requires.settled c.in-Err.ensures.left _ names c.requires.session

pub returns-in-Err-clause-unchanged : goal.returns-in-Err-clause-unchanged
returns-in-Err-clause-unchanged g c =
    let d = c.answer_all-result.new.state in
    let names = c.keep_first.ensures ∙ ap (λ n. take n d.names) c.count-count.ensures in
    left_state d c.clear.new.self c.clear.ensures.items c.args.state.now c.requires.settled c.in-Err.ensures.left _ names c.requires.session
