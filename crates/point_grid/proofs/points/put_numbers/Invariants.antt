use Rattle.std.proofs.Common.{◌≡◌, ◌<◌, drop}
use Rattle.linear_forms.specs.Values.{number_at}
use Rattle.program_meaning.specs.Scales.{choice, size}
use Rattle.point_grid.proofs.points.put_numbers.Given as goal

-- what is left of the index, along the scales that are left, leads to the choice
abbrev pub invariant-loop-scale : goal.invariant-loop-scale
invariant-loop-scale l = record {
  stride : l.stride ≡ size (drop l.scale-index l.scales);
  inside : l.left < size (drop l.scale-index l.scales);
  leads : choice (number_at l.values) (drop l.scale-index l.scales) l.left ≡ choice (number_at l.fn.values) l.scales l.fn.index;
  denominator : l.values.denominator ≡ l.fn.values.denominator;
}
