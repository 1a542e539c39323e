use Rattle.std.proofs.Common.{refl, ◌≡◌, pos, FitsSigned, rules, arith, ap, ◌∙◌, ◌<ℤ◌}
use Rattle.std.specs.Prelude.{int_div, ◌*ℤ◌}
use Rattle.std.specs.Int.{w128}
use Rattle.std.proofs.lemmas.Int.{ints, to_z-of_z, quot_fits}
use Rattle.exact_numbers.specs.Limit.{checked}
use Rattle.exact_numbers.specs.Divides.{lcm_of}
use Rattle.exact_numbers.specs.Division.{IsLcm}
use Rattle.exact_numbers.proofs.GreatestDivisor.{gcd_is, gcd_positive}
use Rattle.exact_numbers.proofs.LeastMultiple.{lcm_is}
use Rattle.exact_numbers.proofs.Limits.{match_checked}
use Rattle.exact_numbers.proofs.divisors.lcm.Goals as goal

pub returns : goal.returns
unfolding lcm_of
returns c =
    let a = c.args.a in let b = c.args.b in
    let fa = c.ranges.a in let fb = c.ranges.b in
    let fg : FitsSigned w128 c.gcd.result = search rules in
    let g = simp to_z-of_z at c.gcd.ensures.value in
    let n : ¬ (b ≡ pos 0) = λ (z : b ≡ pos 0). omega (arith, ints) in
    let gp = gcd_positive (gcd_is a b) n in
    let dp : pos 0 <ℤ c.gcd.result = omega (arith, ints) in
    let fq = quot_fits w128 a c.gcd.result fa dp in
    let p = simp to_z-of_z at c.product.ensures.rule in
    let e : c.product.result ≡ checked (lcm_of a b) = p ∙ ap (λ z. checked (int_div a z *ℤ b)) g in
    record {
      value = match_checked c.product.result (lcm_of a b) (λ m. (m ≡ lcm_of a b) × IsLcm a b m) e (λ _. (refl, lcm_is c.requires.first_positive c.requires.second_positive));
      rule = e;
    }
