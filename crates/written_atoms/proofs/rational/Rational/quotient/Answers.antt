use Rattle.std.proofs.Common.{ℤ, refl, sym, subst}
use Rattle.exact_numbers.specs.Limit.{InLimit}
use Rattle.exact_numbers.proofs.Casts.{quotient_of_bits}
use Rattle.written_atoms.proofs.Steps.{quotient_within}
use Rattle.written_atoms.proofs.rational.Rational.quotient.Goals as goal

pub returns : goal.returns
returns c =
    let n = c.args.number in let d = c.args.divisor in
    let e = quotient_of_bits n d d c.ranges.number c.ranges.divisor c.requires.positive refl in
    record { value = e; within = subst (λ (z : ℤ). InLimit z) (sym e) (quotient_within n d c.requires.within) }
