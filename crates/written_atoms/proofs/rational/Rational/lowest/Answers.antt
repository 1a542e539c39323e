use Rattle.std.proofs.Common.{◌≡◌, ◌∷◌, pos, ◌<ℤ◌, ℤ, sym, subst, arith}
use Rattle.std.specs.Prelude.{int_div}
use Rattle.std.specs.Int.{w128}
use Rattle.std.proofs.lemmas.Int.{to_z-of_z}
use Rattle.exact_numbers.specs.Limit.{InLimit}
use Rattle.exact_numbers.specs.Divides.{content_of}
use Rattle.exact_numbers.proofs.Casts.{fits, same_bits}
use Rattle.logic_meaning.specs.Reduction.{quotient}
use Rattle.language_meaning.specs.RationalForms.{numbers_of}
use Rattle.written_atoms.proofs.Steps.{lowest_already, lowest_divided, denominator_positive}
use Rattle.written_atoms.proofs.rational.Rational.lowest.Goals as goal

pub returns-then-divisor-eq1 : goal.returns-then-divisor-eq1
returns-then-divisor-eq1 c =
    let d = c.args.denominator in let f = c.args.form in
    let fd = c.ranges.denominator in
    let g = c.common_divisor-divisor.result in
    let one : g ≡ pos 1 = same_bits g (pos 1) c.common_divisor-divisor.ensures.within (omega arith) c.if-divisor-eq1.true in
    let e : g ≡ content_of (d ∷ numbers_of f) = simp to_z-of_z at c.common_divisor-divisor.ensures.value in
    record { rule = simp to_z-of_z (lowest_already d f g e one); linear = c.common_divisor-divisor.ensures.linear }

pub invariant_of-result-in-Ok : goal.invariant_of-result-in-Ok
invariant_of-result-in-Ok c =
    let d = c.args.denominator in let g = c.common_divisor-divisor.result in
    let k = c.quotient.result in
    let fd = c.ranges.denominator in
    let fg = fits g c.common_divisor-divisor.ensures.within in
    let fk = fits k c.quotient.ensures.within in
    let e : k ≡ int_div d g = simp to_z-of_z at c.quotient.ensures.value in
    let p : pos 0 <ℤ k = subst (λ (z : ℤ). pos 0 <ℤ z) (sym e) (denominator_positive d g c.requires.positive c.common_divisor-divisor.ensures.positive (simp to_z-of_z at c.common_divisor-divisor.ensures.denominator)) in
    let same = sym (to_z-of_z w128 k fk) in
    record { positive = subst (λ (z : ℤ). pos 0 <ℤ z) same p; within = subst (λ (z : ℤ). InLimit z) same c.quotient.ensures.within; constant_within = c.in-Ok.ensures.divided.linear.constant_within }

pub returns-in-Ok : goal.returns-in-Ok
returns-in-Ok c =
    let d = c.args.denominator in let f = c.args.form in let g = c.common_divisor-divisor.result in
    let k = c.quotient.result in
    let fd = c.ranges.denominator in
    let fg = fits g c.common_divisor-divisor.ensures.within in
    let fk = fits k c.quotient.ensures.within in
    let e : g ≡ content_of (d ∷ numbers_of f) = simp to_z-of_z at c.common_divisor-divisor.ensures.value in
    let q : k ≡ int_div d g = simp to_z-of_z at c.quotient.ensures.value in
    let r : c.in-Ok.form ≡ quotient f g = simp to_z-of_z at c.in-Ok.ensures.value in
    record { rule = simp to_z-of_z (lowest_divided d f c.in-Ok.form g k e r q); linear = c.in-Ok.ensures.divided.linear }
