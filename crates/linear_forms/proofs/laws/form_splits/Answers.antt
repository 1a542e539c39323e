use Rattle.formula_laws.proofs.Values.{value_split}
use Rattle.formula_laws.proofs.Coefficients.{coefficient_without_same}
use Rattle.linear_forms.proofs.Determined.{without_linear}
use Rattle.linear_forms.proofs.laws.form_splits.Goals as goal

pub returns : goal.returns
returns c = record { value = λ x f p. value_split f p x; linear = without_linear; coefficient = coefficient_without_same }
