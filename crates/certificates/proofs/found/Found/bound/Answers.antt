use Rattle.std.proofs.Common.{◌≡◌, ap, sym, subst, ◌∙◌, option_map, pos, neg_ℤ, arith, refl}
use Rattle.std.proofs.lemmas.Int.{ints, to_z-of_z}
use Rattle.exact_numbers.specs.Limit.{InLimit}
use Rattle.exact_numbers.specs.Frac.{Frac, whole_frac, inverted, sum_step, product_step}
use Rattle.exact_numbers.specs.Fraction.{frac_of}
use Rattle.exact_numbers.proofs.Casts.{fits, read_back}
use Rattle.exact_numbers.proofs.Limits.{limit_neg}
use Rattle.logic_meaning.specs.Form.{coefficient}
use Rattle.certificates.proofs.NewRow.{turned}
use Rattle.certificates.proofs.Ascents.{bound_is, with_constant, over_coefficient}
use Rattle.certificates.proofs.found.Found.bound.Goals as goal

pub returns-in_err-terms : goal.returns-in_err-terms
returns-in_err-terms c =
    let x = c.args.name.number in let f = c.args.form.now in
    ap (option_map frac_of) c.from_residual.ensures ∙ ap (λ o. over_coefficient x c.args.self.now f (with_constant x c.args.self.now f o)) c.in_err-terms.ensures ∙ bound_is x c.args.self.now f

pub returns-in_err-sum : goal.returns-in_err-sum
returns-in_err-sum c =
    let x = c.args.name.number in let vs = c.args.self.now in let f = c.args.form.now in
    let w = c.constant_part.ensures.linear.constant_within in
    let k : frac_of c.whole.result ≡ whole_frac f.constant = c.whole.ensures.value ∙ ap whole_frac (read_back c.constant_part.result (subst InLimit (sym c.constant_part.ensures.value) w) ∙ c.constant_part.ensures.value) in
    ap (option_map frac_of) c.from_residual-in_err-sum.ensures
    ∙ ap (over_coefficient x vs f) (c.in_err-sum.ensures.rule ∙ ap (sum_step (frac_of c.in_ok-terms.terms)) k ∙ ap (with_constant x vs f) c.in_ok-terms.ensures) ∙ bound_is x vs f

pub overflow_sub-coefficient : goal.overflow_sub-coefficient
overflow_sub-coefficient c = let w = c.coefficient.ensures.within in let f = fits c.coefficient.result w in simp to_z-of_z (omega (arith, ints))

pub whole-requires-2 : goal.whole-requires-2
whole-requires-2 c =
    let w = c.coefficient.ensures.within in
    subst InLimit (sym (turned c.coefficient.result c.coefficient.result refl w)) (limit_neg c.coefficient.result w)

pub invert-requires : goal.invert-requires
invert-requires c z =
    let t = turned c.coefficient.result (coefficient c.args.name.number c.args.form.now) c.coefficient.ensures.value c.coefficient.ensures.within in
    let e : pos 0 ≡ neg_ℤ (coefficient c.args.name.number c.args.form.now) = sym z ∙ ap (λ (a : Frac). a.numerator) c.whole-2.ensures.value ∙ t in
    c.requires (omega (arith, ints))

pub returns : goal.returns
returns c =
    let x = c.args.name.number in let vs = c.args.self.now in let f = c.args.form.now in
    let w = c.constant_part.ensures.linear.constant_within in
    let k : frac_of c.whole.result ≡ whole_frac f.constant = c.whole.ensures.value ∙ ap whole_frac (read_back c.constant_part.result (subst InLimit (sym c.constant_part.ensures.value) w) ∙ c.constant_part.ensures.value) in
    let t = turned c.coefficient.result (coefficient x f) c.coefficient.ensures.value c.coefficient.ensures.within in
    let i : frac_of c.invert.result ≡ inverted (whole_frac (neg_ℤ (coefficient x f))) = c.invert.ensures.value ∙ ap inverted (c.whole-2.ensures.value ∙ ap whole_frac t) in
    c.multiply.ensures.rule ∙ ap (product_step (frac_of c.in_ok-sum.sum)) i
    ∙ ap (over_coefficient x vs f) (c.in_ok-sum.ensures.rule ∙ ap (sum_step (frac_of c.in_ok-terms.terms)) k ∙ ap (with_constant x vs f) c.in_ok-terms.ensures) ∙ bound_is x vs f
