use Rattle.shape_theory.proofs.CleanFormsTreeLaws.{is_clean}
use Rattle.shape_theory.proofs.clean_form_is_clean.Goals as goal

pub returns : goal.returns
returns c = is_clean
