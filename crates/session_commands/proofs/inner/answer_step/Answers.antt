use Rattle.std.proofs.Common.{sym, subst, ◌∙◌, map}
use Rattle.std.specs.List.{AllByRecursion}
use Rattle.formula_store.specs.Nodes.{tree}
use Rattle.formula_resolving.specs.Order.{nest_of}
use Rattle.session_state.specs.Keeping.{state_of}
use Rattle.session_commands.specs.Inner.{IsOwn}
use Rattle.session_commands.specs.Running.{IsStep}
use Rattle.session_commands.proofs.InnerSteps.{answering, there_session, step_own, step_taken}
use Rattle.session_commands.proofs.inner.answer_step.Goals as goal

pub inner_formula-given-requires-clause-session : goal.inner_formula-given-requires-clause-session
inner_formula-given-requires-clause-session g c _ _ =
    let t = c.in_ok-state.ensures.taken in
    there_session c.args.state.now (nest_of c.args.step.now) c.args.workshop.now.limits.nodes c.args.answers.now.items c.take_last.new.answers.items c.in_ok-state.field-0 t.0 (t.1 ∙ c.requires.counted) c.requires.own c.requires.session

pub returns-in-Ok-clause-own : goal.returns-in-Ok-clause-own
returns-in-Ok-clause-own g c =
    let t = c.in_ok-state.ensures.taken in
    let new = c.inner_formula-given.new.state in
    subst (AllByRecursion (IsOwn (answering new c.clear.new.self))) (sym c.in-Ok.ensures.items)
    (step_own c.args.state.now (nest_of c.args.step.now) c.args.workshop.now.limits.nodes c.args.answers.now.items c.take_last.new.answers.items c.in_ok-state.field-0 t.0 (t.1 ∙ c.requires.counted) c.requires.own c.requires.session new
    c.in_ok-id.ensures.session c.inner_formula-given.ensures.grown c.in_ok-id.id c.clear.new.self c.in_ok-id.ensures.own)

pub returns-in-Ok-clause-answered : goal.returns-in-Ok-clause-answered
returns-in-Ok-clause-answered g c =
    let t = c.in_ok-state.ensures.taken in
    let d = c.args.state.now in
    let n = nest_of c.args.step.now in
    let limit = c.args.workshop.now.limits.nodes in
    let new = c.inner_formula-given.new.state in
    subst (λ ids. IsStep (state_of d) limit n (map (tree d.store) c.args.answers.now.items) d.names (map (tree new.store) ids) new.names) (sym c.in-Ok.ensures.items)
    (step_taken d n limit c.args.answers.now.items c.take_last.new.answers.items c.in_ok-state.field-0 t.0 (t.1 ∙ c.requires.counted) c.requires.own c.requires.session new
    c.in_ok-id.ensures.session c.inner_formula-given.ensures.grown c.in_ok-id.id c.clear.new.self c.in_ok-id.ensures.answered)
