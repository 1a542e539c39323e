use Rattle.std.proofs.Common.{◌≡◌, map, take}
use Rattle.point_queries.specs.GridSteps.{part_entry}
use Rattle.point_queries.proofs.grids.entries_of.Given as goal

-- the entries of the axes so far
abbrev pub invariant-loop-axis : goal.invariant-loop-axis
invariant-loop-axis l = l.entries.items ≡ map (part_entry l.part) (take l.axis-index l.axes)
