use Rattle.std.proofs.Common.{◌≡◌, ◌∙◌, Err, length, map, sym, ap, subst, rules}
use Rattle.std.specs.Prelude.{IfErr}
use Rattle.formula_resolving.specs.Order.{nest_of}
use Rattle.formula_resolving.proofs.Gathering.{no_steps}
use Rattle.session_state.specs.Keeping.{state_of}
use Rattle.session_commands.specs.Inner.{AreStopped}
use Rattle.session_commands.proofs.AskedLemmas.{inside_asked}
use Rattle.session_commands.proofs.InnerSteps.{answering_session}
use Rattle.session_commands.proofs.InsideLemmas.{ready_alone, answered_alone, formula_there, command_written, numbered_text_session, steps_numbered, steps_enough, stopped_there, ready_there, answered_there}
use Rattle.session_commands.proofs.inner.answer_inside.Goals as goal

pub returns-in_default-clause-ready : goal.returns-in_default-clause-ready
returns-in_default-clause-ready g c = ready_alone c.args.action.now c.requires.written (ap inside_asked c.in_default.ensures.none) c.args.state.now

pub returns-in_default-clause-answered : goal.returns-in_default-clause-answered
returns-in_default-clause-answered g c = answered_alone c.args.action.now c.requires.written (ap inside_asked c.in_default.ensures.none) c.args.state.now c.args.workshop.now.limits.nodes c.requires.settled

pub returns-then-is_empty-clause-ready : goal.returns-then-is_empty-clause-ready
returns-then-is_empty-clause-ready g c =
    let a = c.args.action.now in
    let w = c.requires.written in
    let d = c.args.state.now in
    let b = c.in-Some.command.now in
    let f = c.in-Some.formula.now in
    let asked = c.in-Some.ensures.asked in
    let e : length c.in-Ok.steps.items ≡ 0 = search rules in
    ready_alone a w (formula_there a w b f asked.0 asked.1 ∙ no_steps c.in-Ok.steps.items f c.in-Ok.ensures.order e) d

pub returns-then-is_empty-clause-answered : goal.returns-then-is_empty-clause-answered
returns-then-is_empty-clause-answered g c =
    let a = c.args.action.now in
    let w = c.requires.written in
    let d = c.args.state.now in
    let b = c.in-Some.command.now in
    let f = c.in-Some.formula.now in
    let asked = c.in-Some.ensures.asked in
    let e : length c.in-Ok.steps.items ≡ 0 = search rules in
    answered_alone a w (formula_there a w b f asked.0 asked.1 ∙ no_steps c.in-Ok.steps.items f c.in-Ok.ensures.order e) d c.args.workshop.now.limits.nodes c.requires.settled

pub number_command-requires-clause-written : goal.number_command-requires-clause-written
number_command-requires-clause-written g c = command_written c.args.action.now c.requires.written c.in-Some.command.now c.in-Some.formula.now c.in-Some.ensures.asked.0 c.in-Some.ensures.asked.1

pub answer_steps-requires-clause-session : goal.answer_steps-requires-clause-session
answer_steps-requires-clause-session g c _ _ =
    let a = c.args.action.now in
    let w = c.requires.written in
    let d = c.args.state.now in
    let b = c.in-Some.command.now in
    let f = c.in-Some.formula.now in
    let asked = c.in-Some.ensures.asked in
    let names = c.number_command.new.names in
    let grown = c.number_command.ensures.grown in
    let is = c.in_ok-number_command.ensures.numbered in
    numbered_text_session a w b f asked.0 asked.1 d c.requires.session names grown is

pub answer_steps-requires-clause-numbered : goal.answer_steps-requires-clause-numbered
answer_steps-requires-clause-numbered g c _ _ =
    let a = c.args.action.now in
    let w = c.requires.written in
    let d = c.args.state.now in
    let b = c.in-Some.command.now in
    let f = c.in-Some.formula.now in
    let asked = c.in-Some.ensures.asked in
    let names = c.number_command.new.names in
    let grown = c.number_command.ensures.grown in
    let is = c.in_ok-number_command.ensures.numbered in
    let order = ap (map nest_of) c.deref.ensures.value ∙ c.in-Ok.ensures.order in
    steps_numbered a w b f asked.0 asked.1 d c.requires.session names grown is c.deref.result.now order

pub answer_steps-requires-clause-enough : goal.answer_steps-requires-clause-enough
answer_steps-requires-clause-enough g c _ _ =
    let a = c.args.action.now in
    let w = c.requires.written in
    let d = c.args.state.now in
    let b = c.in-Some.command.now in
    let f = c.in-Some.formula.now in
    let asked = c.in-Some.ensures.asked in
    let names = c.number_command.new.names in
    let grown = c.number_command.ensures.grown in
    let is = c.in_ok-number_command.ensures.numbered in
    let order = ap (map nest_of) c.deref.ensures.value ∙ c.in-Ok.ensures.order in
    steps_enough a w b f asked.0 asked.1 d c.requires.session names grown is c.deref.result.now order

pub returns-in_err-answers-clause-stopped : goal.returns-in_err-answers-clause-stopped
returns-in_err-answers-clause-stopped g c =
    let a = c.args.action.now in
    let w = c.requires.written in
    let d = c.args.state.now in
    let b = c.in-Some.command.now in
    let f = c.in-Some.formula.now in
    let asked = c.in-Some.ensures.asked in
    let names = c.number_command.new.names in
    let grown = c.number_command.ensures.grown in
    let is = c.in_ok-number_command.ensures.numbered in
    let order = ap (map nest_of) c.deref.ensures.value ∙ c.in-Ok.ensures.order in
    let limit = c.args.workshop.now.limits.nodes in
    let e : c.from_residual-in_err-answers.result ≡ Err c.in_err-answers.field-0.0 = search rules in
    subst (λ r. IfErr r (AreStopped a (state_of d) limit)) (sym e)
    (stopped_there a w b f asked.0 asked.1 d c.requires.session names grown is c.deref.result.now order limit c.in_err-answers.field-0.0 c.in_err-answers.ensures.halted)

pub returns-clause-session : goal.returns-clause-session
returns-clause-session g c = answering_session c.answer_steps.new.state c.in_ok-answers.answers c.in_ok-answers.ensures.session c.in_ok-answers.ensures.own

pub returns-clause-ready : goal.returns-clause-ready
returns-clause-ready g c =
    let a = c.args.action.now in
    let w = c.requires.written in
    let d = c.args.state.now in
    let b = c.in-Some.command.now in
    let f = c.in-Some.formula.now in
    let asked = c.in-Some.ensures.asked in
    let names = c.number_command.new.names in
    let grown = c.number_command.ensures.grown in
    let is = c.in_ok-number_command.ensures.numbered in
    let order = ap (map nest_of) c.deref.ensures.value ∙ c.in-Ok.ensures.order in
    let limit = c.args.workshop.now.limits.nodes in
    let later = c.answer_steps.new.state in
    let answers = c.in_ok-answers.answers in
    ready_there a w b f asked.0 asked.1 d c.requires.session names grown is c.deref.result.now order limit later c.answer_steps.ensures.grown c.in_ok-answers.ensures.session answers c.in_ok-answers.ensures.own c.in_ok-answers.ensures.answered

pub returns-clause-answered : goal.returns-clause-answered
returns-clause-answered g c =
    let a = c.args.action.now in
    let w = c.requires.written in
    let d = c.args.state.now in
    let b = c.in-Some.command.now in
    let f = c.in-Some.formula.now in
    let asked = c.in-Some.ensures.asked in
    let names = c.number_command.new.names in
    let grown = c.number_command.ensures.grown in
    let is = c.in_ok-number_command.ensures.numbered in
    let order = ap (map nest_of) c.deref.ensures.value ∙ c.in-Ok.ensures.order in
    let limit = c.args.workshop.now.limits.nodes in
    let later = c.answer_steps.new.state in
    let answers = c.in_ok-answers.answers in
    answered_there a w b f asked.0 asked.1 d c.requires.session names grown is c.deref.result.now order limit later c.answer_steps.ensures.grown c.in_ok-answers.ensures.session answers c.in_ok-answers.ensures.own c.in_ok-answers.ensures.answered
