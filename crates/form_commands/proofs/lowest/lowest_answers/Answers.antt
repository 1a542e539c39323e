use Rattle.std.proofs.Common.{◌∷◌, [], ◌++◌}
use Rattle.std.proofs.lemmas.List.Elements.{All-same, All-push}
use Rattle.test_points.specs.Points.{IsTestPoint}
use Rattle.form_commands.proofs.LowestAnswers.{answers_more}
use Rattle.form_commands.proofs.lowest.lowest_answers.Goals as goal

pub loop-answer-preserved : goal.loop-answer-preserved
loop-answer-preserved c =
    let one = c.in_ok-in_lowest_terms in
    let pushed = c.in_ok-push.ensures.items in
    record {
      answers = answers_more c.args.answers.now c.loop-answer.lowest.items c.push.new.self.items c.loop-answer.answer-index one.field-0 c.answer-item.result c.loop-answer-test.true c.loop-answer.invariant.answers pushed c.answer-item.is one.ensures.answer;
      points = All-same IsTestPoint c.push.new.self.items (c.loop-answer.lowest.items ++ one.field-0 ∷ []) pushed (All-push IsTestPoint c.loop-answer.lowest.items one.field-0 c.loop-answer.invariant.points one.ensures.point);
    }
