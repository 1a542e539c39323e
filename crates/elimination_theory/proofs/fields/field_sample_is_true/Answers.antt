use Rattle.elimination_theory.proofs.FieldsSample.{sample_is_true}
use Rattle.elimination_theory.proofs.fields.field_sample_is_true.Goals as goal

pub returns : goal.returns
returns c = sample_is_true
