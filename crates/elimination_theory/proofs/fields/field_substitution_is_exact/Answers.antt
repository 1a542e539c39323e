use Rattle.elimination_theory.proofs.FieldsSubstitute.{substitution_exact}
use Rattle.elimination_theory.proofs.fields.field_substitution_is_exact.Goals as goal

pub returns : goal.returns
returns c = substitution_exact
