use Rattle.searched_verdicts.proofs.Descending.{IsOnTheWay}
use Rattle.searched_verdicts.proofs.matrix.matrix_of.Given as goal

-- the id of what stands under the names so far
abbrev pub invariant-levels : goal.invariant-levels
invariant-levels l = IsOnTheWay l.store l.fn.id l.count l.left l.matrix

abbrev pub decreases-levels : goal.decreases-levels
decreases-levels l = l.left
