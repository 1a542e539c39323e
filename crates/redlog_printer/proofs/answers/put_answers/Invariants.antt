use Rattle.std.proofs.Common.{◌≡◌, ◌≤◌, ◌+◌, ◌++◌, [], length, map, drop}
use Rattle.test_points.specs.Points.{answer_of}
use Rattle.logic_meaning.specs.AnswerTexts.{separated, answer_texts}
use Rattle.redlog_printer.specs.Within.{AreAnswersWithin}
use Rattle.redlog_printer.proofs.answers.put_answers.Given as goal

-- what is written and what is left is the whole text; a number is at most that of the answers
abbrev pub invariant-loop-point : goal.invariant-loop-point
invariant-loop-point l = record {
  left : l.out ++ separated l.before (answer_texts l.names l.counts.epsilon l.counts.infinity (map answer_of (drop l.point-index l.points))) ≡ l.fn.out ++ separated [] (answer_texts l.names 1 1 (map answer_of l.points));
  within : AreAnswersWithin (length l.names) (map answer_of (drop l.point-index l.points));
  few : l.counts.epsilon ≤ l.point-index + 1;
  fewer : l.counts.infinity ≤ l.point-index + 1;
}
