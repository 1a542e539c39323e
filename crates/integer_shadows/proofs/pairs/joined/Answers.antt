use Rattle.std.proofs.Common.{◌≡◌, Some, None, sym, ap, ◌∙◌, subst}
use Rattle.std.proofs.Math.IntN.{neg_ℤ}
use Rattle.std.proofs.lemmas.Int.{to_z-of_z}
use Rattle.exact_numbers.proofs.Casts.{fits, zero_bits}
use Rattle.logic_meaning.specs.Form.{coefficient}
use Rattle.integer_shadows.specs.Forms.{IsRaised}
use Rattle.integer_shadows.specs.Pairs.{need_for, need_of}
use Rattle.integer_shadows.proofs.Making.{some_at}
use Rattle.integer_shadows.proofs.Gaps.{pair_of}
use Rattle.integer_shadows.proofs.pairs.joined.Goals as goal

pub returns-then-need-eq0 : goal.returns-then-need-eq0
returns-then-need-eq0 c =
    let x = c.args.name.number in let l = c.args.lower.now in let u = c.args.upper.now in
    let fs = c.ranges.step in
    let b = c.coefficient-below.result in let fb = fits b c.coefficient-below.ensures.within in
    let fu = fits c.coefficient.result c.coefficient.ensures.within in
    let a = c.negative-above.result in let fa = fits a c.negative-above.ensures.within in
    let ea : a ≡ neg_ℤ (coefficient x u) = simp to_z-of_z at c.negative-above.ensures.value ∙ ap neg_ℤ c.coefficient.ensures.value in
    let g = some_at _ c.in-Some.is (simp to_z-of_z at c.in_ok-gap.ensures) in
    let n = simp to_z-of_z at c.in-Some-need.ensures in
    let e : c.in-Some-need.need ≡ need_of x c.args.step l u = n.0 ∙ (λ i. need_for (c.coefficient-below.ensures.value i) (ea i) c.args.step) in
    pair_of x c.args.step l u c.in-Some.gap b a None c.coefficient-below.ensures.value ea g (sym e ∙ zero_bits c.in-Some-need.need n.1 c.if-need-eq0.true)

pub returns-in-Some-raised : goal.returns-in-Some-raised
returns-in-Some-raised c =
    let x = c.args.name.number in let l = c.args.lower.now in let u = c.args.upper.now in
    let fs = c.ranges.step in
    let b = c.coefficient-below.result in let fb = fits b c.coefficient-below.ensures.within in
    let fu = fits c.coefficient.result c.coefficient.ensures.within in
    let a = c.negative-above.result in let fa = fits a c.negative-above.ensures.within in
    let ea : a ≡ neg_ℤ (coefficient x u) = simp to_z-of_z at c.negative-above.ensures.value ∙ ap neg_ℤ c.coefficient.ensures.value in
    let g = some_at _ c.in-Some.is (simp to_z-of_z at c.in_ok-gap.ensures) in
    let n = simp to_z-of_z at c.in-Some-need.ensures in
    let fn = fits c.in-Some-need.need n.1 in
    let e : c.in-Some-need.need ≡ need_of x c.args.step l u = n.0 ∙ (λ i. need_for (c.coefficient-below.ensures.value i) (ea i) c.args.step) in
    let fm = fits c.negative.result c.negative.ensures.within in
    let m : c.negative.result ≡ neg_ℤ (need_of x c.args.step l u) = simp to_z-of_z at c.negative.ensures.value ∙ ap neg_ℤ e in
    let r = simp to_z-of_z at c.in-Some-raised.ensures in
    let raised = subst (λ w. IsRaised (neg_ℤ (need_of x c.args.step l u)) w c.in-Some-raised.form) c.in_ok-copy.ensures.same (subst (λ z. IsRaised z c.in_ok-copy.field-0 c.in-Some-raised.form) m r) in
    pair_of x c.args.step l u c.in-Some.gap b a (Some c.in-Some-raised.form) c.coefficient-below.ensures.value ea g raised
