use Rattle.std.proofs.Common.{◌≡◌, ℕ, ◌++◌, map, sym, ap, ap₂, ◌∙◌, subst, All, arith, ◌+◌}
use Rattle.std.proofs.Math.IntN.{pos, neg_ℤ}
use Rattle.std.proofs.lemmas.List.Elements.{All-push}
use Rattle.logic_meaning.specs.Answer.{Periodic}
use Rattle.logic_meaning.specs.IntegersPoints.{signed, counted}
use Rattle.test_points.specs.Points.{place_of, IsPointOf}
use Rattle.test_points.proofs.Rows.{run_more, passed_signed, passed_next, passed_negative}
use Rattle.test_points.proofs.runs.push_classes.Goals as goal

pub loop-before-preserved : goal.loop-before-preserved
loop-before-preserved c =
    let s = c.args.side in
    let n = c.args.period in
    let k = c.loop-before.before in
    let fits = c.ranges.period.fits in
    let small = c.loop-before-test.true in
    let number = passed_signed s c.signed-number.result _ (pos (1 + k)) c.signed-number.ensures.value c.signed-number.ensures.within (passed_next c.from-in-loop-before.result k c.from-in-loop-before.ensures (omega arith)) in
    let step = passed_signed s c.signed-step.result _ (neg_ℤ (pos n)) c.signed-step.ensures.value c.signed-step.ensures.within (passed_negative c.from.result n c.from.ensures (omega arith)) in
    let items = c.in_ok-push_point.ensures in
    record {
      places = run_more place_of (λ (j : ℕ). Periodic (signed s (pos j)) (signed s (neg_ℤ (pos n)))) 1 k c.args.points.now.items c.loop-before.points.items _ c.class.result items
          (c.class.ensures.place ∙ ap₂ Periodic number step) c.loop-before.invariant.places;
      well_formed = subst (All (IsPointOf c.args.x)) (sym items) (All-push (IsPointOf c.args.x) c.loop-before.points.items c.class.result c.loop-before.invariant.well_formed c.class.ensures.well_formed);
    }

pub returns-clause-places : goal.returns-clause-places
returns-clause-places c =
    let s = c.args.side in
    let n = c.args.period in
    let a = c.loop-before-test.false in
    let b = c.loop-before.auto.before-end in
    let e : c.loop-before.before ≡ n = omega arith in
    c.loop-before.invariant.places ∙ ap (λ (k : ℕ). map place_of c.args.points.now.items ++ map (λ (j : ℕ). Periodic (signed s (pos j)) (signed s (neg_ℤ (pos n)))) (counted 1 k)) e
