use Rattle.std.proofs.Common.{◌≡◌, ◌≤◌, ◌+◌, drop}
use Rattle.std.specs.Prelude.{count_by}
use Rattle.program_meaning.specs.Generated.{is_of, number_of, lines_after}
use Rattle.redlog_run.proofs.count.number_of.Given as goal

-- what is left to count follows the line that has begun
abbrev pub invariant-bytes : goal.invariant-bytes
invariant-bytes l = record {
  few : l.number ≤ l.byte-index;
  left : number_of l.kind l.lines ≡ l.number + count_by (is_of l.kind) (lines_after l.line.items (drop l.byte-index l.lines));
}
