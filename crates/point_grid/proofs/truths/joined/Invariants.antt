use Rattle.std.proofs.Common.{◌≡◌, take}
use Rattle.std.specs.Prelude.{flat_map}
use Rattle.point_grid.proofs.truths.joined.Given as goal

abbrev pub invariant-loop-run : goal.invariant-loop-run
invariant-loop-run l = l.truths.items ≡ flat_map (λ run. run.items) (take l.run-index l.runs)
