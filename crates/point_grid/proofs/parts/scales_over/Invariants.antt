use Rattle.std.proofs.Common.{◌≡◌, take, map}
use Rattle.std.specs.List.{AllByRecursion}
use Rattle.point_grid.specs.ScaleWithin.{IsWithin}
use Rattle.program_meaning.specs.GridPoints.{scale_of, AxisFits}
use Rattle.point_grid.proofs.parts.scales_over.Given as goal

-- the axes so far, over the denominator
abbrev pub invariant-loop-axis : goal.invariant-loop-axis
invariant-loop-axis l = record {
  made : l.scales.items ≡ map (scale_of l.denominator) (take l.axis-index l.axes);
  within : AllByRecursion IsWithin l.scales.items;
  fits : AllByRecursion (AxisFits l.denominator) (take l.axis-index l.axes);
}
