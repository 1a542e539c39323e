use Rattle.std.proofs.Common.{◌<ℤ◌, pos, unsigned_abs, option_map, ℤ, sym, ap, ◌∙◌, subst}
use Rattle.exact_numbers.specs.Fraction.{frac_of}
use Rattle.exact_numbers.specs.Limit.{InLimit}
use Rattle.exact_numbers.proofs.Casts.{read_back}
use Rattle.linear_forms.specs.Values.{number_at}
use Rattle.reference_engine.proofs.Parting.{value_within}
use Rattle.plain_samples.proofs.Placing.{unformed_value}
use Rattle.plain_samples.proofs.places.form_value.Goals as goal

pub returns-in_err-number : goal.returns-in_err-number
returns-in_err-number c =
    let v = c.args.at.now in
    let positive : pos 0 <ℤ v.denominator = subst (λ (z : ℤ). pos 0 <ℤ z) c.denominator-denominator.ensures.value c.denominator-denominator.ensures.positive in
    ap (option_map frac_of) c.from_residual.ensures ∙ sym (unformed_value c.args.form.now (unsigned_abs c.args.over) v positive c.in_err-number.ensures.rule)

pub reduced-requires-clause-numerator_within : goal.reduced-requires-clause-numerator_within
reduced-requires-clause-numerator_within c =
    let n = c.in_ok-number.number in
    let v = c.args.at.now in
    let w = value_within c.args.form.now (number_at v) v.denominator n c.in_ok-number.ensures.rule in
    subst InLimit (sym (read_back n w)) w
