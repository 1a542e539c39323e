use Rattle.std.proofs.Common.{◌≡◌, ℕ, ◌+◌, sym, ap, ◌∙◌, subst, All, arith, unsigned_abs, to_z, of_z}
use Rattle.std.proofs.Math.IntN.{ℤ, pos, ◌+ℤ◌}
use Rattle.std.specs.Int.{w128}
use Rattle.std.proofs.lemmas.Int.{ints}
use Rattle.std.proofs.lemmas.List.Elements.{All-push}
use Rattle.exact_numbers.specs.Limit.{InLimit}
use Rattle.exact_numbers.proofs.Casts.{read_back}
use Rattle.logic_meaning.specs.Answer.{Exact}
use Rattle.logic_meaning.specs.IntegersPoints.{signed}
use Rattle.test_points.specs.Points.{place_of, IsPointOf}
use Rattle.test_points.proofs.Rows.{run_more, passed_signed, passed_sum}
use Rattle.test_points.proofs.runs.push_run.Goals as goal

first_within : (a : ℤ) → InLimit (a +ℤ pos 0) → InLimit a
first_within a h = let e : a +ℤ pos 0 ≡ a = omega (arith, ints) in subst InLimit e h

none_before : (k : ℕ) → k ≡ 0 + k
none_before k = omega arith

pub loop-after-preserved : goal.loop-after-preserved
loop-after-preserved c =
    let s = c.args.side in
    let k = c.loop-after.after in
    let fits = c.ranges.count.fits in
    let small = c.loop-after-test.true in
    let w = first_within c.args.first (c.requires.within 0 (omega arith)) in
    let number = passed_sum c.args.first c.from.result k w c.from.ensures (omega arith) (c.requires.within k small) in
    let constant = passed_signed s c.signed-constant.result _ (c.args.first +ℤ pos k) c.signed-constant.ensures.value c.signed-constant.ensures.within number in
    let o = to_z w128 (of_z w128 c.args.first) in
    let sc = unsigned_abs (to_z w128 (of_z w128 c.args.scale)) in
    let there = constant ∙ ap (λ (z : ℤ). signed s (z +ℤ pos k)) (sym (read_back c.args.first w)) in
    let items = c.in_ok-push_point.ensures in
    let f = c.args.form.now in
    record {
      places = run_more place_of (λ (j : ℕ). Exact (record { terms = f.terms; constant = signed s (o +ℤ pos j) }) sc) 0 k c.args.points.now.items c.loop-after.points.items _ c.in_ok-point.point items
          (c.in_ok-point.ensures.place ∙ (λ i. Exact (record { terms = f.terms; constant = there i }) sc) ∙ ap (λ (j : ℕ). Exact (record { terms = f.terms; constant = signed s (o +ℤ pos j) }) sc) (none_before k)) c.loop-after.invariant.places;
      well_formed = subst (All (IsPointOf c.args.x)) (sym items) (All-push (IsPointOf c.args.x) c.loop-after.points.items c.in_ok-point.point c.loop-after.invariant.well_formed c.in_ok-point.ensures.well_formed);
    }
