use Rattle.std.proofs.Common.{◌≤◌}
use Rattle.simplex_optimum.proofs.tableau.Tableau.lower.Given as goal

abbrev pub invariant-loop-column : goal.invariant-loop-column
invariant-loop-column l = l.effort ≤ l.fn.effort

abbrev pub decreases-loop-column : goal.decreases-loop-column
decreases-loop-column l = l.effort
