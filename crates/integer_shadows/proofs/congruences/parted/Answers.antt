use Rattle.std.proofs.Common.{◌≡◌, sym, ◌∙◌, subst}
use Rattle.std.proofs.Math.IntN.{pos, neg_ℤ}
use Rattle.std.specs.Prelude.{◌≤ℤ◌, ◌<ℤ◌}
use Rattle.std.proofs.lemmas.Int.{to_z-of_z}
use Rattle.exact_numbers.proofs.Casts.{fits, positive_bits}
use Rattle.integer_shadows.proofs.Making.{some_at}
use Rattle.integer_shadows.proofs.Euclid.{AreSteps, IsNext, next, quotient_within}
use Rattle.integer_shadows.proofs.congruences.parted.Goals as goal

-- what a step gives
step : (c : goal.After-drop-class-inside-in-steps) → IsNext c.args.name.number c.args.modulus c.args.class c.args.rest c.steps.rest c.in-Some.next
step c =
    let x = c.args.name.number in
    let fm = c.ranges.modulus in
    let a = c.coefficient-in-steps.result in let fa = fits a c.coefficient-in-steps.ensures.within in
    let b = c.coefficient-in-steps-2.result in let fb = fits b c.coefficient-in-steps-2.ensures.within in
    let ea = c.coefficient-in-steps.ensures.value in let eb = c.coefficient-in-steps-2.ensures.value in
    let q = c.floor_div-quotient.result in
    let r = simp to_z-of_z at c.floor_div-quotient.ensures.rounded in
    let et = c.coefficient.ensures.value in
    let t : pos 0 <ℤ c.coefficient.result = positive_bits c.coefficient.result (subst (λ z. pos 0 ≤ℤ z) (sym et) c.steps.invariant.rest) c.steps-test.true in
    let hb : pos 0 <ℤ b = subst (λ z. pos 0 <ℤ z) (et ∙ sym eb) t in
    let ha : pos 0 ≤ℤ a = subst (λ z. pos 0 ≤ℤ z) (sym ea) c.steps.invariant.class in
    let fq = fits q (quotient_within a b q ha hb r c.coefficient-in-steps.ensures.within) in
    let k = c.negative-multiple.result in let fk = fits k c.negative-multiple.ensures.within in
    let ek : k ≡ neg_ℤ q = simp to_z-of_z at c.negative-multiple.ensures.value in
    let h = some_at _ c.in-Some.is (simp to_z-of_z at c.in_ok-next.ensures) in
    let s : AreSteps c.args.modulus c.args.class c.args.rest c.steps.class c.steps.rest = simp to_z-of_z at c.steps.invariant.same in
    next x c.args.modulus q k c.args.class c.args.rest c.steps.class c.steps.rest c.in-Some.next a b c.requires.modulus.0 ea eb r ek h s

pub steps-smaller : goal.steps-smaller
steps-smaller c = (step c).smaller

pub steps-preserved : goal.steps-preserved
steps-preserved c =
    let fm = c.ranges.modulus in
    let n = step c in
    record { class = c.steps.invariant.rest; rest = n.not_negative; linear = n.linear; same = simp to_z-of_z n.same }
