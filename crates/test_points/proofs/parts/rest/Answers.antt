use Rattle.std.proofs.Common.{◌∙◌, sym, ap, subst, if◌then◌else◌}
use Rattle.std.proofs.Math.IntN.{ℤ, neg_ℤ}
use Rattle.exact_numbers.specs.Limit.{InLimit}
use Rattle.exact_numbers.proofs.Casts.{read_back}
use Rattle.linear_forms.specs.Combinations.{IsLinear}
use Rattle.test_points.proofs.Forms.{rest_is, rest_linear}
use Rattle.test_points.proofs.parts.rest.Goals as goal

pub of-requires : goal.of-requires
of-requires c =
    let b = c.args.negative in
    let constant = read_back c.constant_part.result (subst InLimit (sym c.constant_part.ensures.value) c.constant_part.ensures.linear.constant_within) ∙ c.constant_part.ensures.value in
    let number = read_back c.signed.result c.signed.ensures.within ∙ c.signed.ensures.value ∙ ap (λ (z : ℤ). if b then neg_ℤ z else z) constant in
    subst IsLinear (sym (rest_is b c.args.x.number c.args.form.now _ _ c.in_ok-terms.ensures number)) (rest_linear b c.args.x.number c.args.form.now c.constant_part.ensures.linear)

pub returns-clause-value : goal.returns-clause-value
returns-clause-value c =
    let b = c.args.negative in
    let constant = read_back c.constant_part.result (subst InLimit (sym c.constant_part.ensures.value) c.constant_part.ensures.linear.constant_within) ∙ c.constant_part.ensures.value in
    let number = read_back c.signed.result c.signed.ensures.within ∙ c.signed.ensures.value ∙ ap (λ (z : ℤ). if b then neg_ℤ z else z) constant in
    c.of.ensures.form ∙ rest_is b c.args.x.number c.args.form.now _ _ c.in_ok-terms.ensures number
