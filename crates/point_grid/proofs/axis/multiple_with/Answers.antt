use Rattle.std.proofs.Common.{◌≡◌, Some, None, ap, ◌∙◌}
use Rattle.std.proofs.lemmas.Int.{to_z-of_z}
use Rattle.exact_numbers.specs.Frac.{Frac}
use Rattle.exact_numbers.specs.Limit.{checked}
use Rattle.exact_numbers.specs.Divides.{lcm_of}
use Rattle.exact_numbers.proofs.Casts.{fits}
use Rattle.point_grid.proofs.Multiples.{first_none, second_none, third_made, within_of}
use Rattle.point_grid.proofs.axis.multiple_with.Goals as goal

pub returns-in_err-with_low : goal.returns-in_err-with_low
returns-in_err-with_low c =
    let fm = c.ranges.multiple in
    let fd = fits c.lowest.result.denominator c.lowest.result.denominator_within in
    let a : None ≡ checked (lcm_of c.args.multiple c.lowest.result.denominator) = simp to_z-of_z at c.in_err-with_low.ensures.rule in
    c.from_residual.ensures ∙ first_none c.args.multiple c.args.axis.now c.lowest.result.denominator c.requires (ap (λ (p : Frac). p.denominator) c.lowest.ensures) a

pub returns-in_err-with_high : goal.returns-in_err-with_high
returns-in_err-with_high c =
    let fm = c.ranges.multiple in
    let fd = fits c.lowest.result.denominator c.lowest.result.denominator_within in
    let fe = fits c.lowest-2.result.denominator c.lowest-2.result.denominator_within in
    let w = c.in_ok-with_low.with_low in
    let a : Some w ≡ checked (lcm_of c.args.multiple c.lowest.result.denominator) = simp to_z-of_z at c.in_ok-with_low.ensures.rule in
    let fw = fits w (within_of _ w a) in
    let b : None ≡ checked (lcm_of w c.lowest-2.result.denominator) = simp to_z-of_z at c.in_err-with_high.ensures.rule in
    c.from_residual-in_err-with_high.ensures
    ∙ second_none c.args.multiple c.args.axis.now c.lowest.result.denominator c.lowest-2.result.denominator w c.requires (ap (λ (p : Frac). p.denominator) c.lowest.ensures) (ap (λ (p : Frac). p.denominator) c.lowest-2.ensures) a b

pub returns : goal.returns
returns c =
    let fm = c.ranges.multiple in
    let fd = fits c.lowest.result.denominator c.lowest.result.denominator_within in
    let fe = fits c.lowest-2.result.denominator c.lowest-2.result.denominator_within in
    let ff = fits c.lowest-3.result.denominator c.lowest-3.result.denominator_within in
    let w = c.in_ok-with_low.with_low in
    let a : Some w ≡ checked (lcm_of c.args.multiple c.lowest.result.denominator) = simp to_z-of_z at c.in_ok-with_low.ensures.rule in
    let fw = fits w (within_of _ w a) in
    let v = c.in_ok-with_high.with_high in
    let b : Some v ≡ checked (lcm_of w c.lowest-2.result.denominator) = simp to_z-of_z at c.in_ok-with_high.ensures.rule in
    let fv = fits v (within_of _ v b) in
    let d : c.lcm-3.result ≡ checked (lcm_of v c.lowest-3.result.denominator) = simp to_z-of_z at c.lcm-3.ensures.rule in
    d ∙ third_made c.args.multiple c.args.axis.now c.lowest.result.denominator c.lowest-2.result.denominator c.lowest-3.result.denominator w v (ap (λ (p : Frac). p.denominator) c.lowest.ensures) (ap (λ (p : Frac). p.denominator) c.lowest-2.ensures) (ap (λ (p : Frac). p.denominator) c.lowest-3.ensures) a b
