use Rattle.std.proofs.Common.{◌≡◌, ◌≤◌, ◌-◌, false, length, take}
use Rattle.redlog_run.specs.Script.{Stands}
use Rattle.redlog_run.proofs.answer.answer_script.Given as goal

-- the bytes in front were taken, and the lines are those of their pieces
abbrev pub invariant-loop-taken : goal.invariant-loop-taken
invariant-loop-taken g l = record {
  stands : Stands l.fn.limits.nodes (take l.taken l.script) l.answering.answers.lines.items l.answering;
  none : l.answering.splitter.whole ≡ false;
  count : l.answering.splitter.fed ≡ l.taken;
  within : l.taken ≤ length l.script;
}

abbrev pub decreases-loop-taken : goal.decreases-loop-taken
decreases-loop-taken g l = length l.script - l.taken
