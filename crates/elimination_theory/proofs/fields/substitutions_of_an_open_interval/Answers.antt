use Rattle.elimination_theory.proofs.FieldsExample.{open_interval_substitutions}
use Rattle.elimination_theory.proofs.fields.substitutions_of_an_open_interval.Goals as goal

pub returns : goal.returns
returns c = open_interval_substitutions
