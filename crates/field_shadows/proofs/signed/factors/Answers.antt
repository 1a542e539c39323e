use Rattle.std.proofs.Common.{◌≡◌, pos, ◌+ℤ◌, ◌*ℤ◌, FitsSigned, ap, ap₂, sym, ◌∙◌, subst}
use Rattle.std.specs.Prelude.{◌<ℤ◌, int_div}
use Rattle.std.specs.Int.{w128}
use Rattle.std.proofs.lemmas.Int.{to_z-of_z}
use Rattle.exact_numbers.specs.Divides.{gcd_of}
use Rattle.exact_numbers.proofs.Casts.{fits, read_back}
use Rattle.field_shadows.proofs.Cancelling.{neg_bits, not_positive, quotients_equal, quotient_nonzero, cancel_one, cancel_other}
use Rattle.field_shadows.proofs.signed.factors.Goals as goal

pub returns-then-times-gt0-clause-cancel : goal.returns-then-times-gt0-clause-cancel
returns-then-times-gt0-clause-cancel c =
    let k = c.quotients-by in
    let own = c.args.own in
    let other = c.args.other in
    let fo : FitsSigned w128 own = c.ranges.own in
    let fz : FitsSigned w128 other = c.ranges.other in
    let ey : k.result.0 ≡ int_div own (gcd_of own other) = simp to_z-of_z at k.ensures.own in
    let et : k.result.1 ≡ int_div other (gcd_of own other) = simp to_z-of_z at k.ensures.other in
    let e = ap (λ z. z *ℤ own) et ∙ quotients_equal own other c.requires.nonzero ∙ ap (λ z. z *ℤ other) (sym ey) in
    ap₂ (λ v w. v *ℤ own +ℤ w *ℤ other) (read_back k.result.1 k.ensures.other_quotient_within) (neg_bits k.result.0 k.ensures.own_quotient_within)
    ∙ cancel_one k.result.1 k.result.0 own other e

pub returns-else-times-gt0-clause-positive : goal.returns-else-times-gt0-clause-positive
returns-else-times-gt0-clause-positive c =
    let k = c.quotients-by in
    let own = c.args.own in
    let other = c.args.other in
    let fo : FitsSigned w128 own = c.ranges.own in
    let fz : FitsSigned w128 other = c.ranges.other in
    let ft = fits k.result.1 k.ensures.other_quotient_within in
    let et : k.result.1 ≡ int_div other (gcd_of own other) = simp to_z-of_z at k.ensures.other in
    let f = simp to_z-of_z at c.if-times-gt0.false in
    subst (λ z. pos 0 <ℤ z) (sym (neg_bits k.result.1 k.ensures.other_quotient_within)) (not_positive k.result.1 f (λ e. quotient_nonzero own other c.requires.nonzero (sym et ∙ e)))

pub returns-else-times-gt0-clause-cancel : goal.returns-else-times-gt0-clause-cancel
returns-else-times-gt0-clause-cancel c =
    let k = c.quotients-by in
    let own = c.args.own in
    let other = c.args.other in
    let fo : FitsSigned w128 own = c.ranges.own in
    let fz : FitsSigned w128 other = c.ranges.other in
    let ey : k.result.0 ≡ int_div own (gcd_of own other) = simp to_z-of_z at k.ensures.own in
    let et : k.result.1 ≡ int_div other (gcd_of own other) = simp to_z-of_z at k.ensures.other in
    let e = ap (λ z. z *ℤ own) et ∙ quotients_equal own other c.requires.nonzero ∙ ap (λ z. z *ℤ other) (sym ey) in
    ap₂ (λ v w. v *ℤ own +ℤ w *ℤ other) (neg_bits k.result.1 k.ensures.other_quotient_within) (read_back k.result.0 k.ensures.own_quotient_within)
    ∙ cancel_other k.result.1 k.result.0 own other e
