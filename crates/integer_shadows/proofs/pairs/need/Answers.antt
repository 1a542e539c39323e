use Rattle.std.proofs.lemmas.Int.{to_z-of_z}
use Rattle.exact_numbers.proofs.Casts.{fits}
use Rattle.integer_shadows.proofs.Making.{some_from}
use Rattle.integer_shadows.proofs.Gaps.{need_value}
use Rattle.integer_shadows.proofs.pairs.need.Goals as goal

pub returns : goal.returns
returns c =
    let fl = c.ranges.lower in let fu = c.ranges.upper in let fs = c.ranges.step in
    let first = simp to_z-of_z at c.in_ok-product.ensures.value in
    let ff = fits c.in_ok-product.field-0 first.1 in
    let all = simp to_z-of_z at c.in_ok-all.ensures.value in
    let fa = fits c.in_ok-all.all all.1 in
    let below = simp to_z-of_z at c.negative.ensures.value in
    let fb = fits c.negative.result c.negative.ensures.within in
    let above = simp to_z-of_z at c.negative-2.ensures.value in
    let fv = fits c.negative-2.result c.negative-2.ensures.within in
    let one = simp to_z-of_z at c.in_ok-sum.ensures.value in
    let fo = fits c.in_ok-sum.field-0 one.1 in
    let two = simp to_z-of_z at c.in_ok-sum-2.ensures.value in
    let ft = fits c.in_ok-sum-2.field-0 two.1 in
    some_from _ _ _ c.sum-3.result
    (λ n h. (
      need_value c.args.lower c.args.upper c.args.step c.in_ok-product.field-0 c.in_ok-all.all c.negative.result c.negative-2.result c.in_ok-sum.field-0 c.in_ok-sum-2.field-0 n first.0 all.0 below above one.0 two.0 h.0,
      h.1,
    ))
    (simp to_z-of_z at c.sum-3.ensures.value)
