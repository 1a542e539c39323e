use Rattle.std.proofs.Common.{◌≡◌, sym, ◌∙◌, ap₂, subst, ◌∷◌}
use Rattle.std.proofs.Math.IntN.{ℤ}
use Rattle.exact_numbers.specs.Limit.{InLimit}
use Rattle.exact_numbers.specs.Divides.{gcd_of, content_of}
use Rattle.exact_numbers.proofs.Casts.{read_back}
use Rattle.logic_meaning.specs.Form.{coefficients}
use Rattle.test_points.proofs.Lowest.{IsDivisor, divisor_is}
use Rattle.form_commands.proofs.lowest.common_divisor.Goals as goal

pub returns : goal.returns
unfolding content_of
returns c =
    let o = c.args.over in
    let f = c.args.form.now in
    let k = c.constant_part-number.ensures in
    let w : InLimit c.constant_part-number.result = subst InLimit (sym k.value) k.linear.constant_within in
    let number = read_back c.constant_part-number.result w ∙ k.value in
    let content = read_back c.content.result c.content.ensures.within ∙ c.content.ensures.value in
    let shared = read_back c.gcd-shared.result c.gcd-shared.ensures.within ∙ c.gcd-shared.ensures.value ∙ ap₂ gcd_of number content in
    let all : c.gcd.result ≡ content_of (o ∷ f.constant ∷ coefficients f.terms) = c.gcd.ensures.value ∙ ap₂ gcd_of (read_back o c.requires.within) shared in
    let back = read_back c.gcd.result c.gcd.ensures.within in
    let d = subst (λ (g : ℤ). IsDivisor g f o) (sym (back ∙ all)) (divisor_is f o c.requires.positive) in
    record { value = d.value; positive = d.positive; within = subst InLimit (sym back) c.gcd.ensures.within; over = d.over; numbers = d.numbers }
