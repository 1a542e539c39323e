use Rattle.std.proofs.Common.{rules, ◌≡◌, ◌<◌, ◌+◌, ◌++◌, [], map, List, length, drop, refl, subst}
use Rattle.std.proofs.lemmas.Option.{slice_get_read}
use Rattle.logic_meaning.specs.Writing.{text_limit}
use Rattle.redlog_printer.proofs.Written.{drop_at}
use Rattle.test_points.specs.declared.points.TestPoint.{TestPoint}
use Rattle.test_points.specs.Points.{answer_of}
use Rattle.logic_meaning.specs.AnswerTexts.{separated, answer_text, answer_texts, next_epsilon, next_infinity}
use Rattle.redlog_printer.proofs.Separating.{next_long}
use Rattle.redlog_printer.proofs.answers.put_answers.Goals as goal

pub returns-in_err-put_answer-clause-long : goal.returns-in_err-put_answer-clause-long
returns-in_err-put_answer-clause-long c h =
    let names = c.args.names.now in
    let points : List TestPoint = c.args.points.now in
    let item = c.point-item.result in
    let i = c.loop-point.point-index in
    let m = c.loop-point.counts.epsilon in
    let n = c.loop-point.counts.infinity in
    let before = c.loop-point.before.now in
    let long : text_limit < length c.loop-point.out + length (before ++ answer_text names m n (answer_of item)) = search rules in
    next_long before (answer_text names m n (answer_of item)) (answer_texts names (next_epsilon (answer_of item).place m) (next_infinity (answer_of item).place n) (map answer_of (drop (i + 1) points)))
    c.args.out.now (separated [] (answer_texts names 1 1 (map answer_of points))) c.loop-point.out text_limit
    (subst (λ (ts : List TestPoint). c.loop-point.out ++ separated before (answer_texts names m n (map answer_of ts)) ≡ c.args.out.now ++ separated [] (answer_texts names 1 1 (map answer_of points)))
    (drop_at points i item (slice_get_read points (length points) i item refl c.loop-point-test.true c.point-item.is)) c.loop-point.invariant.left)
    long
