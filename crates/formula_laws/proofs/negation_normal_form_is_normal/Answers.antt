use Rattle.formula_laws.proofs.NormalShape.{normal_form_shape}
use Rattle.formula_laws.proofs.negation_normal_form_is_normal.Goals as goal

pub returns : goal.returns
returns c = λ opposite f. normal_form_shape opposite f
