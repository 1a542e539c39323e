use Rattle.std.proofs.Common.{◌≡◌, pos, ℤ, sym, subst, refl, arith}
use Rattle.std.specs.Prelude.{◌<ℤ◌, ◌*ℤ◌, int_div}
use Rattle.std.proofs.lemmas.Int.{ints}
use Rattle.exact_numbers.specs.Divides.{Divides}
use Rattle.exact_numbers.proofs.Order.{factor_positive}
use Rattle.exact_numbers.proofs.LeastMultiple.{exact_div}
use Rattle.exact_numbers.proofs.Casts.{quotient_of_bits}
use Rattle.normal_atoms.proofs.congruence.quotient.Goals as goal

quotient_positive : (n d : ℤ) → pos 0 <ℤ n → pos 0 <ℤ d → Divides d n → pos 0 <ℤ int_div n d
quotient_positive n d h k e =
    let x = exact_div d n (λ (z : d ≡ pos 0). omega (arith, ints)) e in
    let p : pos 0 <ℤ (d *ℤ int_div n d) = omega (arith, ints) in
    factor_positive k p

pub returns-clause-positive : goal.returns-clause-positive
returns-clause-positive c =
    let n = c.args.number in let d = c.args.divisor in
    subst (λ (z : ℤ). pos 0 <ℤ z) (sym (quotient_of_bits n d d c.ranges.number c.ranges.divisor c.requires.divisor_positive refl)) (quotient_positive n d c.requires.number_positive c.requires.divisor_positive c.requires.divides)
