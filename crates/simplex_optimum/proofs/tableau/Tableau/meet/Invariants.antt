use Rattle.std.proofs.Common.{◌≤◌}
use Rattle.simplex_optimum.proofs.tableau.Tableau.meet.Given as goal

abbrev pub invariant-loop-place : goal.invariant-loop-place
invariant-loop-place l = l.effort ≤ l.fn.effort

abbrev pub decreases-loop-place : goal.decreases-loop-place
decreases-loop-place l = l.effort
