use Rattle.std.proofs.Common.{◌≡◌, ℤ, sym, subst}
use Rattle.std.specs.Int.{w128}
use Rattle.std.proofs.lemmas.Int.{to_z-of_z}
use Rattle.exact_numbers.specs.Limit.{InLimit}
use Rattle.exact_numbers.specs.Divides.{gcd_of}
use Rattle.exact_numbers.proofs.Casts.{fits}
use Rattle.written_atoms.proofs.Steps.{IsCommonDivisor, common_divisor}
use Rattle.written_atoms.proofs.rational.Rational.common_divisor.Goals as goal

pub returns : goal.returns
returns c =
    let d = c.args.denominator in let f = c.args.form.now in
    let fd = c.ranges.denominator in
    let fk = fits c.constant_part.result (subst (λ (z : ℤ). InLimit z) (sym c.constant_part.ensures.value) c.constant_part.ensures.linear.constant_within) in
    let fc = fits c.content.result c.content.ensures.within in
    let fg = fits c.gcd.result c.gcd.ensures.within in
    let fr = fits c.gcd-2.result c.gcd-2.ensures.within in
    let g : c.gcd.result ≡ gcd_of c.constant_part.result c.content.result = simp to_z-of_z at c.gcd.ensures.value in
    let r : c.gcd-2.result ≡ gcd_of d c.gcd.result = simp to_z-of_z at c.gcd-2.ensures.value in
    let k = common_divisor d f c.constant_part.result c.content.result c.gcd.result c.gcd-2.result c.requires.positive c.constant_part.ensures.value c.content.ensures.value g r in
    let e = sym (to_z-of_z w128 c.gcd-2.result fr) in
    let m = subst (λ (z : ℤ). IsCommonDivisor d f z) e k in
    record { value = m.value; positive = m.positive; denominator = m.denominator; numbers = m.numbers; within = subst (λ (z : ℤ). InLimit z) e c.gcd-2.ensures.within; linear = c.constant_part.ensures.linear }
