use Rattle.std.proofs.Common.{take}
use Rattle.std.specs.List.{AllByRecursion}
use Rattle.certificates.specs.Constraints.{constraint_of}
use Rattle.linear_forms.specs.Values.{point_of}
use Rattle.least_search.specs.Problems.{IsKeptAlong}
use Rattle.least_search.proofs.checks.all_are_kept.Given as goal

-- the rows so far are kept
abbrev pub invariant-loop-row : goal.invariant-loop-row
invariant-loop-row l = AllByRecursion (λ r. IsKeptAlong (point_of l.steps) (constraint_of r)) (take l.row-index l.rows)
