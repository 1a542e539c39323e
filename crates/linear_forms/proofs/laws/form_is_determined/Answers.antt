use Rattle.linear_forms.proofs.Determined.{same_form, same_combination, same_quotient}
use Rattle.linear_forms.proofs.laws.form_is_determined.Goals as goal

pub returns : goal.returns
returns c = record { form = same_form; combination = same_combination; quotient = same_quotient }
