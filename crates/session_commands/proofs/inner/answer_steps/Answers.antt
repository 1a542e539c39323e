use Rattle.std.proofs.Common.{◌≡◌, ◌≢◌, ◌+◌, [], Err, length, map, sym, subst, rules, drop}
use Rattle.std.specs.Prelude.{IfErr}
use Rattle.formula_store.specs.Nodes.{tree}
use Rattle.formula_resolving.specs.Order.{nest_of}
use Rattle.session_state.specs.Keeping.{state_of}
use Rattle.session_state.proofs.StateLemmas.{grows_then_grows}
use Rattle.program_meaning.specs.declared.line.StatementError.TheVariants as error
use Rattle.session_commands.specs.Inner.{IsNumberedNest}
use Rattle.session_commands.specs.Running.{Halts}
use Rattle.session_commands.proofs.InnerSteps.{nests_numbers}
use Rattle.session_commands.proofs.StepLemmas.{next_has, next_counted, enough_after, runs_on, halts_now}
use Rattle.session_commands.proofs.inner.answer_steps.Goals as goal

pub returns-in_err-answer_step-clause-halted : goal.returns-in_err-answer_step-clause-halted
returns-in_err-answer_step-clause-halted g c =
    let old = c.args.state.now in
    let now = c.loop-step.state in
    let limit = c.args.workshop.now.limits.nodes in
    let e : c.from_residual.result ≡ Err c.in_err-answer_step.field-0.0 = search rules in
    subst (λ r. IfErr r (λ d. d ≢ error.Memory → Halts (state_of old) limit (map nest_of c.args.steps.now) [] old.names d)) (sym e)
    (λ other. halts_now c.args.steps.now c.loop-step.step-index c.step-item.result c.loop-step-test.true c.step-item.is old now c.requires.session.ids c.loop-step.invariant.grown limit (map (tree now.store) c.loop-step.answers.items) c.loop-step.invariant.runs
    c.in_err-answer_step.field-0.0 (c.in_err-answer_step.ensures.halted other))

pub returns-in_err-answer_step-clause-grown : goal.returns-in_err-answer_step-clause-grown
returns-in_err-answer_step-clause-grown g c = grows_then_grows c.args.state.now c.loop-step.state c.answer_step.new.state c.loop-step.invariant.grown c.answer_step.ensures.grown

pub loop-step-preserved : goal.loop-step-preserved
loop-step-preserved g c =
    let steps = c.args.steps.now in
    let i = c.loop-step.step-index in
    let one = c.step-item.result in
    let below = c.loop-step-test.true in
    let is = c.step-item.is in
    let old = c.args.state.now in
    let now = c.loop-step.state in
    let next = c.answer_step.new.state in
    let held = c.loop-step.invariant in
    let counted = next_counted steps i one below is held.counted in
    record {
      session = c.in_ok-answer_step.ensures.session;
      settled = c.answer_step.ensures.settled;
      own = c.in_ok-answer_step.ensures.own;
      runs = runs_on steps i one below is old now c.requires.session.ids held.grown c.args.workshop.now.limits.nodes (map (tree now.store) c.loop-step.answers.items) held.runs (map (tree next.store) c.answer_step.new.answers.items) next.names
          c.in_ok-answer_step.ensures.answered;
      grown = grows_then_grows old now next held.grown c.answer_step.ensures.grown;
      counted = counted.1;
      numbered = nests_numbers (map nest_of (drop (i + 1) steps)) now.names next.names c.answer_step.ensures.grown.names (next_has steps i one below is (IsNumberedNest now.names) held.numbered).1;
      enough = enough_after steps i one below is (length c.loop-step.answers.items) (length c.answer_step.new.answers.items) counted.0 c.in_ok-answer_step.ensures.count held.enough;
    }
