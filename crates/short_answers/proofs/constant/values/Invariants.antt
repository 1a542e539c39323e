use Rattle.std.proofs.Common.{◌≡◌, pos}
use Rattle.short_answers.proofs.constant.values.Given as goal

abbrev pub invariant-loop-name : goal.invariant-loop-name
invariant-loop-name l = record {
  denominator : l.values.denominator ≡ pos 1;
}
