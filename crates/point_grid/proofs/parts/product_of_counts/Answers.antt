use Rattle.std.proofs.Common.{◌≡◌, ◌*◌, ◌-◌, ◌^◌, ◌+◌, List, drop, min, subst, arith, get_or}
use Rattle.std.proofs.Math.IntN.{pos}
use Rattle.program_meaning.specs.declared.scale.Scale.{Scale}
use Rattle.program_meaning.specs.Scales.{size}
use Rattle.std.proofs.lemmas.List.{drop_all, at_drop_more}
use Rattle.point_grid.proofs.Lists.{size_next, size_begun, size_done}
use Rattle.point_grid.proofs.parts.product_of_counts.Goals as goal

pub loop-scale-init : goal.loop-scale-init
loop-scale-init c = record { left = size_begun (2 ^ 128 - 1) c.args.scales.now; within = omega arith }

pub loop-scale-preserved : goal.loop-scale-preserved
loop-scale-preserved c =
    let ss = c.args.scales.now in
    let i = c.loop-scale.scale-index in
    let p = c.loop-scale.points in
    let none : Scale = record { name = record { number = 0 }; low = pos 0; step = 0; count = 0 } in
    let split = at_drop_more (λ (xs : List Scale). xs) ss i none c.loop-scale-test.true in
    let inv = subst (λ (xs : List Scale). min (p * size xs) (2 ^ 128 - 1) ≡ min (size ss) (2 ^ 128 - 1)) split c.loop-scale.invariant.left in
    record { left = size_next p c.saturating_mul-points.result (2 ^ 128 - 1) (get_or ss i none) (drop (i + 1) ss) ss c.saturating_mul-points.ensures inv; within = omega arith }

pub returns : goal.returns
returns c =
    let ss = c.args.scales.now in
    let p = c.loop-scale.points in
    let inv = subst (λ (xs : List Scale). min (p * size xs) (2 ^ 128 - 1) ≡ min (size ss) (2 ^ 128 - 1)) (drop_all c.loop-scale.scale-index ss c.loop-scale-test.false) c.loop-scale.invariant.left in
    size_done p (2 ^ 128 - 1) ss c.loop-scale.invariant.within inv
