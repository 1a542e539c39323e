use Rattle.resolved_formulas.proofs.FormValues.{form_has_value}
use Rattle.resolved_formulas.proofs.LowestForms.{form_is_lowest}
use Rattle.resolved_formulas.proofs.MissingForms.{missing_has_cause}
use Rattle.resolved_formulas.proofs.laws.forms_have_values.Goals as goal

pub returns : goal.returns
returns c = record { value = form_has_value; lowest = form_is_lowest; missing = missing_has_cause }
