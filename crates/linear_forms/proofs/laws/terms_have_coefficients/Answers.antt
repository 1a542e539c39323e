use Rattle.linear_forms.proofs.Determined.{coefficient_of_term}
use Rattle.linear_forms.proofs.laws.terms_have_coefficients.Goals as goal

pub returns : goal.returns
returns c = coefficient_of_term
