use Rattle.std.proofs.Common.{◌≡◌, map, take}
use Rattle.shape_theory.specs.Counts.{nothing_sizes}
use Rattle.normal_forms.specs.Sizes.{capped, all_joined, sizes_at}
use Rattle.normal_forms.proofs.sizes.together.Given as goal

abbrev pub invariant-loop-id : goal.invariant-loop-id
invariant-loop-id l = l.all ≡ all_joined l.each_with_each (capped (nothing_sizes l.each_with_each)) (map (sizes_at l.table) (take l.id-index l.ids))
