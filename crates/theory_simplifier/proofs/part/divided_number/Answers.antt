use Rattle.std.proofs.Common.{rules, ◌≡◌, ◌⊎◌, ◌∷◌, pos, sym, ap, subst, ◌∙◌, FitsSigned}
use Rattle.std.specs.Int.{w128}
use Rattle.std.proofs.lemmas.Int.{to_z-of_z}
use Rattle.std.proofs.Math.IntN.{ℤ}
use Rattle.exact_numbers.specs.Division.{DividesAll}
use Rattle.exact_numbers.proofs.Divisibility.{divides_zero}
use Rattle.logic_meaning.specs.Form.{Form}
use Rattle.logic_meaning.specs.Terms.{coefficients}
use Rattle.theory_simplifier.specs.VariableParts.{number_from}
use Rattle.theory_simplifier.proofs.SameParts.{undivided_part}
use Rattle.theory_simplifier.proofs.part.divided_number.Goals as goal

pub returns-then-matches : goal.returns-then-matches
returns-then-matches c =
    let small : (c.content-content.result ≡ pos 0) ⊎ (c.content-content.result ≡ pos 1) = search rules in
    c.number_of.ensures ∙ ap (number_from 0) (undivided_part c.args.form.now.terms c.content-content.result c.content-content.ensures.value small)

pub quotient_number-requires-clause-divides : goal.quotient_number-requires-clause-divides
quotient_number-requires-clause-divides c =
    let d : ℤ = c.content-content.result in
    let fits : FitsSigned w128 d = search rules in
    let same : c.in_ok-copy.copy ≡ c.args.form.now = search rules in
    let put : Form → Form = λ f. record { terms = f.terms; constant = pos 0 } in
    let whole : c.with_constant.result ≡ put c.args.form.now = c.with_constant.ensures.form ∙ ap put same in
    subst (λ (k : ℤ). DividesAll k (c.with_constant.result.constant ∷ coefficients c.with_constant.result.terms)) (sym (to_z-of_z w128 d fits))
    (subst (λ (f : Form). DividesAll d (f.constant ∷ coefficients f.terms)) (sym whole) (divides_zero d, c.content-content.ensures.greatest.divides))
