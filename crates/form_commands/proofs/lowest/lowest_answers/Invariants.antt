use Rattle.std.proofs.Common.{◌≡◌, All, map, take}
use Rattle.test_points.specs.Points.{answer_of, IsTestPoint}
use Rattle.form_commands.specs.Lowest.{lowest_answer}
use Rattle.form_commands.proofs.lowest.lowest_answers.Given as goal

-- the answers so far
abbrev pub invariant-loop-answer : goal.invariant-loop-answer
invariant-loop-answer l = record {
  answers : map answer_of l.lowest.items ≡ map lowest_answer (map answer_of (take l.answer-index l.answers));
  points : All IsTestPoint l.lowest.items;
}
