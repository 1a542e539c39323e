use Rattle.elimination_theory.proofs.FieldsNext.{sample_exists}
use Rattle.elimination_theory.proofs.fields.field_sample_exists.Goals as goal

pub returns : goal.returns
returns c = sample_exists
