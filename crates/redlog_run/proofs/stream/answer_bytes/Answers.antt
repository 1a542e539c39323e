use Rattle.std.proofs.Common.{rules, ◌≡◌, Err, sym, ap, ◌∙◌, subst}
use Rattle.std.proofs.lemmas.Result.{err_from_is_err_and}
use Rattle.qe_io.specs.declared.stop.AnswerStop.TheVariants as answer
use Rattle.redlog_run.specs.Script.{AnswersBytes}
use Rattle.redlog_run.proofs.Standing.{held_first, held_last, runs_out, fails_in, fails_last, ends_written, goes_on_held}
use Rattle.redlog_run.proofs.stream.answer_bytes.Goals as goal

pub loop-taken-init : goal.loop-taken-init
loop-taken-init g c = record {
  held = λ limit before first h. held_first limit before c.args.bytes.now first (g.K.Sink.wrote c.args.sink.now) c.args.answering.now c.requires.quiet h;
  none = search rules;
  count = search rules;
  within = search rules;
  no_fault = search rules;
}

pub returns-in_err-step-clause-answers : goal.returns-in_err-step-clause-answers
returns-in_err-step-clause-answers g c = λ limit before first h.
    let bytes = c.args.bytes.now in
    let now = g.K.Sink.wrote c.loop-taken.sink in
    let p = err_from_is_err_and c.from_residual.result c.from_residual.ensures.1 in
    let is : c.from_residual.result ≡ Err answer.Memory = p.1 ∙ ap Err p.2 in
    subst (AnswersBytes limit before bytes first now c.answer_next.new.answering) (sym is)
    (runs_out limit before bytes c.loop-taken.taken 0 first now c.loop-taken.answering (c.loop-taken.invariant.held limit before first h))

pub returns-in_err-write_lines-clause-answers : goal.returns-in_err-write_lines-clause-answers
returns-in_err-write_lines-clause-answers g c = λ limit before first h.
    let bytes = c.args.bytes.now in
    let step = c.in_ok-step.step in
    let now = g.K.Sink.wrote c.loop-taken.sink in
    let later = g.K.Sink.wrote c.write_lines.new.sink in
    let p = err_from_is_err_and c.from_residual-in_err-write_lines.result c.from_residual-in_err-write_lines.ensures.1 in
    let is : c.from_residual-in_err-write_lines.result ≡ Err answer.Write = p.1 ∙ ap Err p.2 in
    subst (AnswersBytes limit before bytes first later (record c.answer_next.new.answering { answers = c.write_lines.new.answers })) (sym is)
    (fails_in limit before bytes c.loop-taken.taken step.taken first now c.loop-taken.answering (c.loop-taken.invariant.held limit before first h) c.answer_next.new.answering step.ends c.in_ok-step.ensures.stands later
    c.in_err-write_lines.ensures.front)

pub returns-then-step-clause-answers : goal.returns-then-step-clause-answers
returns-then-step-clause-answers g c = λ limit before first h.
    let bytes = c.args.bytes.now in
    let step = c.in_ok-step.step in
    let now = g.K.Sink.wrote c.loop-taken.sink in
    let later = g.K.Sink.wrote c.write_lines.new.sink in
    ends_written limit before bytes c.loop-taken.taken step.taken first now c.loop-taken.answering (c.loop-taken.invariant.held limit before first h) c.answer_next.new.answering step.ends c.in_ok-step.ensures.stands
    c.write_lines.new.answers later c.if-step.true c.write_lines.ensures.refused c.in_ok-write_lines.ensures.wrote

pub returns-in_err-write_due-clause-answers : goal.returns-in_err-write_due-clause-answers
returns-in_err-write_due-clause-answers g c = λ limit before first h.
    let bytes = c.args.bytes.now in
    let step = c.in_ok-step.step in
    let now = g.K.Sink.wrote c.loop-taken.sink in
    let later = g.K.Sink.wrote c.write_due.new.sink in
    let p = err_from_is_err_and c.from_residual-in_err-write_due.result c.from_residual-in_err-write_due.ensures.1 in
    let is : c.from_residual-in_err-write_due.result ≡ Err answer.Write = p.1 ∙ ap Err p.2 in
    subst (AnswersBytes limit before bytes first later (record c.answer_next.new.answering { answers = c.write_due.new.answers })) (sym is)
    (fails_in limit before bytes c.loop-taken.taken step.taken first now c.loop-taken.answering (c.loop-taken.invariant.held limit before first h) c.answer_next.new.answering step.ends c.in_ok-step.ensures.stands later
    c.in_err-write_due.ensures.front)

pub loop-taken-preserved : goal.loop-taken-preserved
loop-taken-preserved g c = record {
  held = λ limit before first h.
      let bytes = c.args.bytes.now in
      let step = c.in_ok-step.step in
      let now = g.K.Sink.wrote c.loop-taken.sink in
      let later = g.K.Sink.wrote c.write_due.new.sink in
      goes_on_held limit before bytes c.loop-taken.taken step.taken first now c.loop-taken.answering (c.loop-taken.invariant.held limit before first h) c.answer_next.new.answering step.ends c.in_ok-step.ensures.stands
      c.write_due.new.answers later c.if-step.false c.write_due.ensures.refused c.in_ok-write_due.ensures.wrote;
  none = search rules;
  count = search rules;
  within = search rules;
  no_fault = search rules;
}

pub returns-in_err-write_lines-2-clause-answers : goal.returns-in_err-write_lines-2-clause-answers
returns-in_err-write_lines-2-clause-answers g c = λ limit before first h.
    let bytes = c.args.bytes.now in
    let now = g.K.Sink.wrote c.loop-taken.sink in
    let later = g.K.Sink.wrote c.write_lines-2.new.sink in
    let p = err_from_is_err_and c.from_residual-in_err-write_lines-2.result c.from_residual-in_err-write_lines-2.ensures.1 in
    let is : c.from_residual-in_err-write_lines-2.result ≡ Err answer.Write = p.1 ∙ ap Err p.2 in
    subst (AnswersBytes limit before bytes first later (record c.loop-taken.answering { answers = c.write_lines-2.new.answers })) (sym is)
    (fails_last limit before bytes c.loop-taken.taken 0 first now c.loop-taken.answering (c.loop-taken.invariant.held limit before first h) later c.in_err-write_lines-2.ensures.front)

pub returns-clause-answers : goal.returns-clause-answers
returns-clause-answers g c = λ limit before first h.
    held_last limit before c.args.bytes.now c.loop-taken.taken first (g.K.Sink.wrote c.loop-taken.sink) (g.K.Sink.wrote c.write_lines-2.new.sink) c.loop-taken.answering c.write_lines-2.new.answers c.loop-taken-test.false
    c.write_lines-2.ensures.refused c.in_ok-write_lines-2.ensures.wrote (c.loop-taken.invariant.held limit before first h)
