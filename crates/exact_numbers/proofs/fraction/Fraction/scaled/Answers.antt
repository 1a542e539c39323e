use Rattle.std.specs.Int.{w128}
use Rattle.std.proofs.lemmas.Int.{to_z-of_z, quot_fits}
use Rattle.exact_numbers.proofs.Casts.{fits}
use Rattle.exact_numbers.proofs.fraction.Fraction.scaled.Goals as goal

pub returns : goal.returns
returns c =
    let s = c.args.self in
    let fn = fits s.numerator s.numerator_within in
    let fd = fits s.denominator s.denominator_within in
    let fm = c.ranges.multiple in
    let fq = quot_fits w128 c.args.multiple s.denominator fm s.positive in
    simp to_z-of_z at c.product.ensures.rule
