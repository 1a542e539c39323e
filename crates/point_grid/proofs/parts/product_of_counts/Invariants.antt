use Rattle.std.proofs.Common.{◌≡◌, ◌*◌, ◌-◌, ◌^◌, ◌≤◌, drop, min}
use Rattle.program_meaning.specs.Scales.{size}
use Rattle.point_grid.proofs.parts.product_of_counts.Given as goal

-- the product so far, with that of the counts left, is that of all
abbrev pub invariant-loop-scale : goal.invariant-loop-scale
invariant-loop-scale l = record {
  left : min (l.points * size (drop l.scale-index l.scales)) (2 ^ 128 - 1) ≡ min (size l.scales) (2 ^ 128 - 1);
  within : l.points ≤ 2 ^ 128 - 1;
}
