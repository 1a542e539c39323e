use Rattle.std.proofs.Common.{◌≡◌, arith, pos, to_z, of_z}
use Rattle.std.specs.Prelude.{◌-ℤ◌, neg_ℤ}
use Rattle.std.specs.Int.{w128}
use Rattle.std.proofs.lemmas.Int.{ints, to_z-of_z}
use Rattle.exact_numbers.proofs.Casts.{fits}
use Rattle.exact_numbers.proofs.FractionRule.{gcd_neg}
use Rattle.exact_numbers.proofs.fraction.Fraction.negate.Goals as goal

pub returns-clause-lowest : goal.returns-clause-lowest
returns-clause-lowest c =
    let s = c.args.self in
    let fn = fits s.numerator s.numerator_within in
    let fd = fits s.denominator s.denominator_within in
    let w = s.numerator_within in
    let e : to_z w128 (of_z w128 (pos 0 -ℤ to_z w128 (of_z w128 s.numerator))) ≡ neg_ℤ s.numerator = omega (arith, ints) in
    λ l. rw (e, to_z-of_z w128 s.denominator fd) (gcd_neg s.numerator s.denominator (pos 1) l)
