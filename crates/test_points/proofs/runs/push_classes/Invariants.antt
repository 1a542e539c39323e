use Rattle.std.proofs.Common.{◌≡◌, ◌++◌, All, map}
use Rattle.std.proofs.Math.IntN.{pos, neg_ℤ}
use Rattle.logic_meaning.specs.Answer.{Periodic}
use Rattle.logic_meaning.specs.IntegersPoints.{signed, counted}
use Rattle.test_points.specs.Points.{place_of, IsPointOf}
use Rattle.test_points.proofs.runs.push_classes.Given as goal

abbrev pub invariant-loop-before : goal.invariant-loop-before
invariant-loop-before l = record {
  places : map place_of l.points.items ≡ map place_of l.initial.points.items ++ map (λ j. Periodic (signed l.side (pos j)) (signed l.side (neg_ℤ (pos l.period)))) (counted 1 l.before);
  well_formed : All (IsPointOf l.x) l.points.items;
}
