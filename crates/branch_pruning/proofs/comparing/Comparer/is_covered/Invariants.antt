use Rattle.std.proofs.Common.{◌≡◌, ◌≤◌}
use Rattle.branch_pruning.proofs.comparing.Comparer.is_covered.Given as goal

abbrev pub invariant-loop-i : goal.invariant-loop-i
invariant-loop-i l = record {
  assumed : l.self.assumed.items ≡ l.fn.self.assumed.items;
  effort : l.self.effort ≤ l.fn.self.effort;
}
