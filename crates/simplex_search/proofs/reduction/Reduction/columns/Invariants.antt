use Rattle.std.proofs.Common.{◌≤◌}
use Rattle.simplex_search.proofs.reduction.Reduction.columns.Given as goal

abbrev pub invariant-loop-counts : goal.invariant-loop-counts
invariant-loop-counts l = l.width ≤ l.counts-index
