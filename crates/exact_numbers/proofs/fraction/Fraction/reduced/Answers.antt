use Rattle.std.proofs.Common.{◌≡◌, FitsSigned, rules, arith, sym, subst, ℤ, pos, ◌<ℤ◌}
use Rattle.std.specs.Int.{w128}
use Rattle.std.proofs.lemmas.Int.{ints, to_z-of_z}
use Rattle.exact_numbers.specs.Limit.{InLimit}
use Rattle.exact_numbers.specs.Divides.{gcd_of}
use Rattle.exact_numbers.specs.Frac.{Frac, SameValue, IsLowest, lowest}
use Rattle.exact_numbers.proofs.Casts.{quotient_of_bits}
use Rattle.exact_numbers.proofs.FractionRule.{divisor_positive, lowest_proper, lowest_value, lowest_is, lowest_above_within, lowest_below_within}
use Rattle.exact_numbers.proofs.fraction.Fraction.reduced.Goals as goal

pub invariant_of-result : goal.invariant_of-result
invariant_of-result c =
    let n = c.args.numerator in let d = c.args.denominator in
    let fn = c.ranges.numerator in let fd = c.ranges.denominator in
    let fg : FitsSigned w128 c.gcd-divisor.result = search rules in
    let g = simp to_z-of_z at c.gcd-divisor.ensures.value in
    let p = divisor_positive n d c.requires.positive in
    let gp : pos 0 <ℤ c.gcd-divisor.result = omega (arith, ints) in
    let above = quotient_of_bits n c.gcd-divisor.result (gcd_of n d) fn fg gp g in
    let below = quotient_of_bits d c.gcd-divisor.result (gcd_of n d) fd fg gp g in
    let w : InLimit d = omega (arith, ints) in
    record {
      positive = subst (λ (z : ℤ). pos 0 <ℤ z) (sym below) (lowest_proper n d c.requires.positive);
      numerator_within = subst (λ (z : ℤ). InLimit z) (sym above) (lowest_above_within n d c.requires.positive c.requires.numerator_within);
      denominator_within = subst (λ (z : ℤ). InLimit z) (sym below) (lowest_below_within n d c.requires.positive w);
    }

pub returns : goal.returns
returns c =
    let n = c.args.numerator in let d = c.args.denominator in
    let fn = c.ranges.numerator in let fd = c.ranges.denominator in
    let fg : FitsSigned w128 c.gcd-divisor.result = search rules in
    let g = simp to_z-of_z at c.gcd-divisor.ensures.value in
    let p = divisor_positive n d c.requires.positive in
    let gp : pos 0 <ℤ c.gcd-divisor.result = omega (arith, ints) in
    let above = quotient_of_bits n c.gcd-divisor.result (gcd_of n d) fn fg gp g in
    let below = quotient_of_bits d c.gcd-divisor.result (gcd_of n d) fd fg gp g in
    let r : record { numerator = _; denominator = _ } ≡ lowest n d = λ i. record { numerator = above i; denominator = below i } in
    record {
      rule = r;
      value = subst (λ (q : Frac). SameValue q (record { numerator = n; denominator = d })) (sym r) (lowest_value n d c.requires.positive);
      lowest = subst (λ (q : Frac). IsLowest q) (sym r) (lowest_is n d c.requires.positive);
    }
