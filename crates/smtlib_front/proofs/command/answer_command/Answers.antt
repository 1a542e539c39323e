use Rattle.std.proofs.Common.{rules, ◌≡◌, Ok, Err, ap, ◌∙◌, sym, subst}
use Rattle.std.proofs.lemmas.Result.{err_from_is_err_and}
use Rattle.qe_io.specs.declared.stop.AnswerStop.TheVariants as answer
use Rattle.program_meaning.specs.declared.smt_reply.SmtReply.{SmtReply}
use Rattle.program_meaning.specs.Replies.{Replies}
use Rattle.program_meaning.specs.SmtRun.{line_of}
use Rattle.smtlib_front.specs.SmtAnswersSteps.{AnswersSo}
use Rattle.smtlib_front.proofs.Commands.{adds_nothing, adds_line, adds_refusal, front_of_line, front_of_refusal}
use Rattle.smtlib_front.proofs.command.answer_command.Goals as goal

pub returns-in-Ok-Nothing-clause-answers : goal.returns-in-Ok-Nothing-clause-answers
returns-in-Ok-Nothing-clause-answers g c = λ s h.
    let limit = c.args.smt.now.limits.nodes in
    let all = c.in-Ok-Nothing.ensures.reply s h in
    let now = g.K.Sink.wrote c.args.sink.now in
    adds_nothing s limit c.args.command.now c.args.offset now now c.command.new.self all.0
    (subst (λ (r : SmtReply). Replies s limit c.args.command.now (Ok r) all.0) c.in-Ok-Nothing.field-0-is all.1) all.2

pub returns-in_ok-write_all-in-Ok-Printed-clause-answers : goal.returns-in_ok-write_all-in-Ok-Printed-clause-answers
returns-in_ok-write_all-in-Ok-Printed-clause-answers g c = λ s h.
    let limit = c.args.smt.now.limits.nodes in
    let all = c.in-Ok-Printed.ensures.reply s h in
    let bytes : c.deref.result.now ≡ line_of c.in-Ok-Printed.text.items = search rules in
    adds_line s limit c.args.command.now c.args.offset (g.K.Sink.wrote c.args.sink.now) (g.K.Sink.wrote c.write_all.new.sink) c.command.new.self all.0 c.in-Ok-Printed.text c.deref.result.now
    (subst (λ (r : SmtReply). Replies s limit c.args.command.now (Ok r) all.0) c.in-Ok-Printed.field-0-is all.1) bytes
    c.in_ok-write_all-in-Ok-Printed.ensures.wrote all.2

pub returns-in_err-write_all-in-Ok-Printed-clause-answers : goal.returns-in_err-write_all-in-Ok-Printed-clause-answers
returns-in_err-write_all-in-Ok-Printed-clause-answers g c = λ s h.
    let limit = c.args.smt.now.limits.nodes in
    let wrote = g.K.Sink.wrote c.args.sink.now in
    let now = g.K.Sink.wrote c.write_all.new.sink in
    let all = c.in-Ok-Printed.ensures.reply s h in
    let bytes : c.deref.result.now ≡ line_of c.in-Ok-Printed.text.items = search rules in
    let p = err_from_is_err_and c.from_residual-in_err-write_all-in-Ok-Printed.result c.from_residual-in_err-write_all-in-Ok-Printed.ensures.1 in
    let is : c.from_residual-in_err-write_all-in-Ok-Printed.result ≡ Err answer.Write = p.1 ∙ ap Err p.2 in
    subst (AnswersSo s limit c.args.command.now c.args.offset wrote now c.command.new.self) (sym is)
    (front_of_line s limit c.args.command.now c.args.offset wrote now c.command.new.self all.0 c.in-Ok-Printed.text c.deref.result.now
    (subst (λ (r : SmtReply). Replies s limit c.args.command.now (Ok r) all.0) c.in-Ok-Printed.field-0-is all.1) bytes
    c.in_err-write_all-in-Ok-Printed.ensures.front)

pub returns-in_ok-write_all-in-Err-clause-answers : goal.returns-in_ok-write_all-in-Err-clause-answers
returns-in_ok-write_all-in-Err-clause-answers g c = λ s h.
    let limit = c.args.smt.now.limits.nodes in
    let all = c.in-Err.ensures.reply s h in
    let line = c.in_ok-refusal_line-in-Err.field-0 in
    let bytes : c.deref-in-Err.result.now ≡ line.items = search rules in
    adds_refusal s limit c.args.command.now c.args.offset (g.K.Sink.wrote c.args.sink.now) (g.K.Sink.wrote c.write_all-in-Err.new.sink) c.command.new.self all.0 c.in-Err.error c.deref-in-Err.result.now
    c.in_ok-refusal_line-in-Err.ensures.cause all.1 (bytes ∙ c.in_ok-refusal_line-in-Err.ensures.line) c.in_ok-write_all-in-Err.ensures.wrote all.2

pub returns-in_err-write_all-in-Err-clause-answers : goal.returns-in_err-write_all-in-Err-clause-answers
returns-in_err-write_all-in-Err-clause-answers g c = λ s h.
    let limit = c.args.smt.now.limits.nodes in
    let wrote = g.K.Sink.wrote c.args.sink.now in
    let now = g.K.Sink.wrote c.write_all-in-Err.new.sink in
    let all = c.in-Err.ensures.reply s h in
    let line = c.in_ok-refusal_line-in-Err.field-0 in
    let bytes : c.deref-in-Err.result.now ≡ line.items = search rules in
    let p = err_from_is_err_and c.from_residual-in_err-write_all-in-Err.result c.from_residual-in_err-write_all-in-Err.ensures.1 in
    let is : c.from_residual-in_err-write_all-in-Err.result ≡ Err answer.Write = p.1 ∙ ap Err p.2 in
    subst (AnswersSo s limit c.args.command.now c.args.offset wrote now c.command.new.self) (sym is)
    (front_of_refusal s limit c.args.command.now c.args.offset wrote now c.command.new.self all.0 c.in-Err.error c.deref-in-Err.result.now
    c.in_ok-refusal_line-in-Err.ensures.cause all.1 (bytes ∙ c.in_ok-refusal_line-in-Err.ensures.line) c.in_err-write_all-in-Err.ensures.front)
