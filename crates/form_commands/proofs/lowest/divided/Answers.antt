use Rattle.std.proofs.Common.{◌≡◌, ◌∙◌, ap, ap₂, unsigned_abs, int_div, arith}
use Rattle.std.proofs.Math.IntN.{ℤ, pos}
use Rattle.std.proofs.lemmas.Int.{ints}
use Rattle.exact_numbers.proofs.Casts.{read_back}
use Rattle.logic_meaning.specs.Reduction.{quotient}
use Rattle.logic_meaning.specs.FieldsPoints.{divisor_of, form_over}
use Rattle.elimination_theory.proofs.LowestTerms.{natural}
use Rattle.test_points.specs.Points.{place_at}
use Rattle.test_points.proofs.Lowest.{quotient_is_over}
use Rattle.form_commands.proofs.lowest.divided.Goals as goal

pub returns-in-Ok-clause-place : goal.returns-in-Ok-clause-place
returns-in-Ok-clause-place c =
    let f = c.args.answer.now.form in
    let d = unsigned_abs c.args.answer.now.over in
    let g = divisor_of f d in
    let divisor = read_back c.common_divisor-divisor.result c.common_divisor-divisor.ensures.within ∙ c.common_divisor-divisor.ensures.value ∙ ap (λ (z : ℤ). pos (divisor_of f (unsigned_abs z))) (read_back c.args.answer.now.over c.requires.point.over_within) in
    let form : c.in-Ok.form ≡ form_over g f = c.in-Ok.ensures.value ∙ ap (quotient f) divisor ∙ quotient_is_over g f in
    let n = natural c.args.answer.now.over (omega (arith, ints)) in
    let over = read_back c.quotient.result c.quotient.ensures.within ∙ c.quotient.ensures.value ∙ ap₂ int_div (read_back c.args.answer.now.over c.requires.point.over_within ∙ n) divisor in
    let period = read_back c.args.answer.now.period c.requires.point.period_within in
    λ i. place_at c.args.answer.now.place (form i) (unsigned_abs (over i)) (period i)
