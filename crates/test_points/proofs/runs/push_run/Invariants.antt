use Rattle.std.proofs.Common.{◌≡◌, ◌++◌, All, map, unsigned_abs}
use Rattle.test_points.specs.Points.{place_of, IsPointOf}
use Rattle.test_points.specs.Starts.{run_of}
use Rattle.test_points.proofs.runs.push_run.Given as goal

abbrev pub invariant-loop-after : goal.invariant-loop-after
invariant-loop-after l = record {
  places : map place_of l.points.items ≡ map place_of l.initial.points.items ++ run_of l.side (unsigned_abs l.scale) l.form l.first l.after;
  well_formed : All (IsPointOf l.x) l.points.items;
}
