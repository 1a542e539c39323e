use Rattle.std.proofs.Common.{◌∷◌, ◌∙◌}
use Rattle.logic_meaning.specs.Terms.{coefficients}
use Rattle.linear_forms.proofs.Quotients.{quotient_minus_one}
use Rattle.certificates.proofs.FirstRows.{minus_divides}
use Rattle.least_search.proofs.constraint_at.negated.Goals as goal

pub divide_exact-requires-clause-divides : goal.divide_exact-requires-clause-divides
divide_exact-requires-clause-divides c = minus_divides (c.args.form.now.constant ∷ coefficients c.args.form.now.terms)

pub returns-in-Ok : goal.returns-in-Ok
returns-in-Ok c = c.in-Ok.ensures.value ∙ quotient_minus_one c.args.form.now
