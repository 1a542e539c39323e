use Rattle.std.proofs.Common.{rules, ◌≡◌, ℕ, List, ◌++◌, Err, sym, ap, ◌∙◌, subst}
use Rattle.std.proofs.lemmas.Result.{err_from_is_err_and}
use Rattle.program_meaning.specs.Streams.{Took}
use Rattle.program_meaning.specs.Ends.{TookFront}
use Rattle.qe_io.specs.declared.stop.AnswerStop.TheVariants as answer
use Rattle.redlog_run.specs.Script.{AnswersLast}
use Rattle.qe_io.proofs.Joined.{took_joined, front_after}
use Rattle.redlog_run.proofs.Standing.{none_held, runs_so}
use Rattle.redlog_run.proofs.stream.answer_end.Goals as goal

pub returns-in_err-answers-clause-answers : goal.returns-in_err-answers-clause-answers
returns-in_err-answers-clause-answers g c = λ limit script first h.
    let p = err_from_is_err_and c.from_residual.result c.from_residual.ensures.1 in
    let is : c.from_residual.result ≡ Err answer.Memory = p.1 ∙ ap Err p.2 in
    subst (AnswersLast limit script first (g.K.Sink.wrote c.args.sink.now)) (sym is) (h.lines, runs_so limit script h.lines c.args.answering h.stands, h.took)

pub returns-in_err-write_all-clause-answers : goal.returns-in_err-write_all-clause-answers
returns-in_err-write_all-clause-answers g c = λ limit script first h.
    let a = c.args.answering in
    let answers = c.in_ok-answers.answers in
    let wrote = g.K.Sink.wrote in
    let p = err_from_is_err_and c.from_residual-in_err-write_all.result c.from_residual-in_err-write_all.ensures.1 in
    let is : c.from_residual-in_err-write_all.result ≡ Err answer.Write = p.1 ∙ ap Err p.2 in
    let text : c.deref.result.now ≡ answers.lines.items = search rules in
    let front = subst (λ (xs : List ℕ). TookFront (wrote c.args.sink.now) (wrote c.write_all.new.sink) xs) text c.in_err-write_all.ensures.front in
    let run = c.in_ok-answers.ensures limit script h.lines (none_held limit script h.lines a c.requires.quiet h.stands) in
    subst (AnswersLast limit script first (wrote c.write_all.new.sink)) (sym is)
    (h.lines ++ answers.lines.items, (answers.refused, run), front_after first (wrote c.args.sink.now) (wrote c.write_all.new.sink) h.lines answers.lines.items h.took front)

pub returns-clause-answers : goal.returns-clause-answers
returns-clause-answers g c = λ limit script first h.
    let a = c.args.answering in
    let answers = c.in_ok-answers.answers in
    let wrote = g.K.Sink.wrote in
    let text : c.deref.result.now ≡ answers.lines.items = search rules in
    let took = subst (λ (xs : List ℕ). Took (wrote c.args.sink.now) (wrote c.write_all.new.sink) xs) text c.in_ok-write_all.ensures.wrote in
    let run = c.in_ok-answers.ensures limit script h.lines (none_held limit script h.lines a c.requires.quiet h.stands) in
    (h.lines ++ answers.lines.items, run, took_joined first (wrote c.args.sink.now) (wrote c.write_all.new.sink) h.lines answers.lines.items h.took took)
