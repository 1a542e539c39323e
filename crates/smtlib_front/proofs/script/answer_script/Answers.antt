use Rattle.std.proofs.Common.{rules, ◌≡◌, ◌+◌, ℕ, Ok, Err, Bool, true, false, ap, ◌∙◌, sym, subst, arith}
use Rattle.std.proofs.lemmas.Result.{err_from_is_err_and}
use Rattle.smt_language.specs.Commands.{AreCommands}
use Rattle.program_meaning.specs.SmtRun.{bytes_of}
use Rattle.smtlib_front.specs.declared.command.Step.{Step}
use Rattle.smtlib_front.specs.declared.command.Step.TheVariants.{Accepted, Refused}
use Rattle.smtlib_front.specs.SmtAnswersSteps.{AnswersSo, AnswersScript}
use Rattle.smtlib_front.proofs.Scripts.{Answering, begins, cut_at, or_false, or_true, lies_here, whole_answers, goes_on, last_answers, stopped_answers}
use Rattle.smtlib_front.proofs.script.answer_script.Goals as goal
use Rattle.smtlib_front.proofs.script.answer_script.Goals.{in-Accepted, in-Refused}

pub cuts-init : goal.cuts-init
cuts-init g c = record {
  answering = begins c.args.limits.nodes c.args.script.now c.deref-cut-items.result.now (g.K.Sink.wrote c.args.sink.now) c.new-smt.result c.new-smt.ensures.state;
  limits = search rules;
  no_fault = search rules;
}

pub slice_bounds-command-count : goal.slice_bounds-command-count
slice_bounds-command-count g c =
    let are : AreCommands c.args.script.now c.deref-cut-items.result.now = search rules in
    (lies_here c.args.script.now c.deref-cut-items.result.now c.cuts.cut-index are c.cuts-test.true).0

pub slice_bounds-command-start : goal.slice_bounds-command-start
slice_bounds-command-start g c =
    let are : AreCommands c.args.script.now c.deref-cut-items.result.now = search rules in
    let lies = lies_here c.args.script.now c.deref-cut-items.result.now c.cuts.cut-index are c.cuts-test.true in
    omega (arith, lies.0, lies.1)

pub slice_bounds-command-end : goal.slice_bounds-command-end
slice_bounds-command-end g c =
    let are : AreCommands c.args.script.now c.deref-cut-items.result.now = search rules in
    let lies = lies_here c.args.script.now c.deref-cut-items.result.now c.cuts.cut-index are c.cuts-test.true in
    omega (arith, lies.0, lies.1)

pub returns-in_err-answer_command-clause-answers : goal.returns-in_err-answer_command-clause-answers
returns-in_err-answer_command-clause-answers g c =
    let wrote = g.K.Sink.wrote in
    let stop = c.in_err-answer_command.field-0.0 in
    let items = c.deref-cut-items.result.now in
    let are : AreCommands c.args.script.now items = search rules in
    let a = c.cuts.invariant.answering in
    let p = err_from_is_err_and c.from_residual-in_err-answer_command.result c.from_residual-in_err-answer_command.ensures.1 in
    let is : c.from_residual-in_err-answer_command.result ≡ Err stop = p.1 ∙ ap Err p.2 in
    subst (AnswersScript c.args.limits.nodes c.args.script.now (wrote c.args.sink.now) (wrote c.answer_command.new.sink)) (sym is)
    (stopped_answers c.args.limits.nodes c.args.script.now items c.cuts.cut-index are (wrote c.args.sink.now) (wrote c.cuts.sink) (wrote c.answer_command.new.sink) c.cuts.smt c.answer_command.new.smt c.cuts.refused a c.cuts-test.true stop
    (subst (λ (n : ℕ). AnswersSo a.state n (bytes_of c.args.script.now (cut_at items c.cuts.cut-index)) (cut_at items c.cuts.cut-index).start (wrote c.cuts.sink) (wrote c.answer_command.new.sink) c.answer_command.new.smt (Err stop))
    c.cuts.invariant.limits (c.in_err-answer_command.ensures.answers a.state a.represents)))

pub returns-in-Last-clause-answers : goal.returns-in-Last-clause-answers
returns-in-Last-clause-answers g c =
    let wrote = g.K.Sink.wrote in
    let items = c.deref-cut-items.result.now in
    let are : AreCommands c.args.script.now items = search rules in
    let a = c.cuts.invariant.answering in
    let found = subst (λ (n : ℕ). AnswersSo a.state n (bytes_of c.args.script.now (cut_at items c.cuts.cut-index)) (cut_at items c.cuts.cut-index).start (wrote c.cuts.sink) (wrote c.answer_command.new.sink) c.answer_command.new.smt (Ok c.in_ok-answer_command.field-0))
    c.cuts.invariant.limits (c.in_ok-answer_command.ensures.answers a.state a.represents) in
    last_answers c.args.limits.nodes c.args.script.now items c.cuts.cut-index are (wrote c.args.sink.now) (wrote c.cuts.sink) (wrote c.answer_command.new.sink) c.cuts.smt c.answer_command.new.smt c.cuts.refused a c.cuts-test.true
    (subst (λ (s : Step). AnswersSo a.state c.args.limits.nodes (bytes_of c.args.script.now (cut_at items c.cuts.cut-index)) (cut_at items c.cuts.cut-index).start (wrote c.cuts.sink) (wrote c.answer_command.new.sink) c.answer_command.new.smt (Ok s)) c.in-Last.is found)

pub returns-clause-answers : goal.returns-clause-answers
returns-clause-answers g c =
    let wrote = g.K.Sink.wrote in
    let items = c.deref-cut-items.result.now in
    let are : AreCommands c.args.script.now items = search rules in
    whole_answers c.args.limits.nodes c.args.script.now items c.cuts.cut-index are (wrote c.args.sink.now) (wrote c.cuts.sink) (wrote c.cuts.sink) c.cuts.smt c.cuts.smt c.cuts.refused c.cuts.invariant.answering c.cuts-test.false

pub cuts-preserved : goal.cuts-preserved
cuts-preserved g c =
    let wrote = g.K.Sink.wrote in
    let items = c.deref-cut-items.result.now in
    let i = c.cuts.cut-index in
    let limit = c.args.limits.nodes in
    let bytes = bytes_of c.args.script.now (cut_at items i) in
    let are : AreCommands c.args.script.now items = search rules in
    let a = c.cuts.invariant.answering in
    let found = subst (λ (n : ℕ). AnswersSo a.state n bytes (cut_at items i).start (wrote c.cuts.sink) (wrote c.answer_command.new.sink) c.answer_command.new.smt (Ok c.in_ok-answer_command.field-0))
    c.cuts.invariant.limits (c.in_ok-answer_command.ensures.answers a.state a.represents) in
    let step = λ (s : Step) (is : c.in_ok-answer_command.field-0 ≡ s). subst (λ (t : Step). AnswersSo a.state limit bytes (cut_at items i).start (wrote c.cuts.sink) (wrote c.answer_command.new.sink) c.answer_command.new.smt (Ok t)) is found in
    let next = goes_on limit c.args.script.now items i are (wrote c.args.sink.now) (wrote c.cuts.sink) (wrote c.answer_command.new.sink) c.cuts.smt c.answer_command.new.smt c.cuts.refused a c.cuts-test.true in
    let P : Bool → Type 0 = λ b. Answering limit c.args.script.now items (i + 1) (wrote c.args.sink.now) (wrote c.answer_command.new.sink) c.answer_command.new.smt b in
    record {
      answering = elim c.match-branch-3.branch [
        | in-Accepted w ↦ subst P (sym (or_false c.cuts.refused) ∙ sym w.refused-is) (next false (step Accepted w.in-Accepted.is))
        | in-Refused w ↦ subst P (sym (or_true c.cuts.refused) ∙ sym w.refused-is) (next true (step (Refused w.in-Refused.error) w.in-Refused.is))
      ];
      limits = search rules;
      no_fault = search rules;
    }
