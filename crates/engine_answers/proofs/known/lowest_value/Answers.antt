use Rattle.std.proofs.Common.{◌≡◌, pos, ◌*ℤ◌, ◌-ℤ◌, ◌<ℤ◌, FitsSigned, refl, sym, ap, ◌∙◌, subst, to_z, of_z, arith}
use Rattle.std.specs.Int.{w128}
use Rattle.std.specs.Prelude.{int_div}
use Rattle.std.proofs.lemmas.Int.{ints, to_z-of_z}
use Rattle.exact_numbers.specs.Division.{IsResidue}
use Rattle.exact_numbers.specs.Frac.{lowest}
use Rattle.exact_numbers.specs.Fraction.{frac_of}
use Rattle.exact_numbers.specs.Limit.{PastLimit}
use Rattle.exact_numbers.proofs.Casts.{fits}
use Rattle.exact_numbers.proofs.Divisibility.{divides_along}
use Rattle.exact_numbers.proofs.LeastMultiple.{exact_div}
use Rattle.engine_answers.proofs.Lowest.{least, lowest_halved, odd_past}
use Rattle.engine_answers.proofs.known.lowest_value.Goals as goal

pub returns-then-residue-eq0 : goal.returns-then-residue-eq0
returns-then-residue-eq0 c =
    let number = c.args.number in
    let d = c.args.denominator in
    let r = c.residue.result in
    let fn = c.ranges.number in
    let fd = c.ranges.denominator in
    let is : number ≡ least = sym (ap (to_z w128) (sym c.if-number-neminus170141183460469231731687303715884105728.false) ∙ to_z-of_z w128 number fn) in
    let none : r ≡ pos 0 = sym (to_z-of_z w128 r (fits r c.residue.ensures.within)) ∙ ap (to_z w128) c.if-residue-eq0.true in
    let remains = subst (λ z. IsResidue z (pos 2) r) (to_z-of_z w128 d fd) c.residue.ensures.remains in
    let whole : d -ℤ r ≡ d = omega (arith, ints, none) in
    let even = divides_along whole remains.same in
    let two = exact_div (pos 2) d (λ (z : pos 2 ≡ pos 0). absurd (omega (arith, ints, z))) even in
    let halved : number ≡ pos 2 *ℤ int_div number (pos 2) = subst (λ n. n ≡ pos 2 *ℤ int_div n (pos 2)) (sym is) refl in
    let positive = c.requires in
    let above : pos 0 <ℤ int_div d (pos 2) = omega (arith, ints, two, positive) in
    let fa : FitsSigned w128 (int_div number (pos 2)) = omega (arith, ints, halved, fn) in
    let fb : FitsSigned w128 (int_div d (pos 2)) = omega (arith, ints, two, fd) in
    let rule : frac_of c.reduced-then-residue-eq0.result ≡ lowest (int_div number (pos 2)) (int_div d (pos 2)) = simp to_z-of_z at c.reduced-then-residue-eq0.ensures.rule in
    rule ∙ sym (lowest_halved number d (int_div number (pos 2)) (int_div d (pos 2)) halved (sym two) above)

pub returns-else-residue-eq0 : goal.returns-else-residue-eq0
returns-else-residue-eq0 c =
    let d = c.args.denominator in
    let r = c.residue.result in
    let is : c.args.number ≡ least = sym (ap (to_z w128) (sym c.if-number-neminus170141183460469231731687303715884105728.false) ∙ to_z-of_z w128 c.args.number c.ranges.number) in
    let remains = subst (λ z. IsResidue z (pos 2) r) (to_z-of_z w128 d c.ranges.denominator) c.residue.ensures.remains in
    subst (λ n. PastLimit (lowest n d).numerator) (sym is) (odd_past d r remains (λ e. c.if-residue-eq0.false (ap (of_z w128) e)))
