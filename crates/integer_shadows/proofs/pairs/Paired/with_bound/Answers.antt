use Rattle.std.proofs.Common.{to_z, of_z}
use Rattle.std.specs.Int.{w128}
use Rattle.std.proofs.lemmas.Int.{to_z-of_z}
use Rattle.integer_shadows.proofs.Gaps.{bound_start, bound_more, bound_whole}
use Rattle.integer_shadows.proofs.pairs.Paired.with_bound.Goals as goal

pub loop-upper-init : goal.loop-upper-init
loop-upper-init c = bound_start c.args.name.number (to_z w128 (of_z w128 c.args.step)) c.args.lower.now c.args.uppers.now c.args.self

pub loop-upper-preserved : goal.loop-upper-preserved
loop-upper-preserved c =
    bound_more c.args.name.number (to_z w128 (of_z w128 c.args.step)) c.args.lower.now c.args.uppers.now c.loop-upper.upper-index c.upper-item.result c.args.self c.loop-upper.paired c.in_ok-paired.paired
    c.loop-upper-test.true c.upper-item.is c.loop-upper.invariant c.in_ok-paired.ensures

pub returns : goal.returns
returns c =
    let fs = c.ranges.step in
    let h = bound_whole c.args.name.number (to_z w128 (of_z w128 c.args.step)) c.args.lower.now c.args.uppers.now c.loop-upper.upper-index c.args.self c.loop-upper.paired c.loop-upper-test.false c.loop-upper.invariant in
    simp to_z-of_z at h
