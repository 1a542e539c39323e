use Rattle.std.proofs.Common.{◌≡◌, drop, pos, ◌<ℤ◌}
use Rattle.exact_numbers.specs.Limit.{InLimit}
use Rattle.program_meaning.specs.GridPoints.{multiple_of}
use Rattle.point_grid.proofs.parts.common_denominator.Given as goal

-- the multiple with the denominators left is that of all
abbrev pub invariant-loop-axis : goal.invariant-loop-axis
invariant-loop-axis l = record {
  left : multiple_of l.multiple (drop l.axis-index l.axes) ≡ multiple_of (pos 1) l.axes;
  positive : pos 0 <ℤ l.multiple;
  within : InLimit l.multiple;
}
