use Rattle.elimination_theory.proofs.FieldsUnique.{sample_unique}
use Rattle.elimination_theory.proofs.fields.field_sample_is_unique.Goals as goal

pub returns : goal.returns
returns c = sample_unique
