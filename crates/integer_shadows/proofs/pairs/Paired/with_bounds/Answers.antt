use Rattle.std.proofs.Common.{to_z, of_z}
use Rattle.std.specs.Int.{w128}
use Rattle.std.proofs.lemmas.Int.{to_z-of_z}
use Rattle.integer_shadows.proofs.Gaps.{bounds_start, bounds_more, bounds_whole}
use Rattle.integer_shadows.proofs.pairs.Paired.with_bounds.Goals as goal

pub loop-lower-init : goal.loop-lower-init
loop-lower-init c = bounds_start c.args.name.number (to_z w128 (of_z w128 c.args.step)) c.args.lowers.now c.args.uppers.now c.args.self

pub loop-lower-preserved : goal.loop-lower-preserved
loop-lower-preserved c =
    bounds_more c.args.name.number (to_z w128 (of_z w128 c.args.step)) c.args.lowers.now c.args.uppers.now c.loop-lower.lower-index c.lower-item.result c.args.self c.loop-lower.paired c.in_ok-paired.paired
    c.loop-lower-test.true c.lower-item.is c.loop-lower.invariant c.in_ok-paired.ensures

pub returns : goal.returns
returns c =
    let fs = c.ranges.step in
    let h = bounds_whole c.args.name.number (to_z w128 (of_z w128 c.args.step)) c.args.lowers.now c.args.uppers.now c.loop-lower.lower-index c.args.self c.loop-lower.paired c.loop-lower-test.false c.loop-lower.invariant in
    simp to_z-of_z at h
