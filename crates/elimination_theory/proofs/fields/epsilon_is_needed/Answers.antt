use Rattle.elimination_theory.proofs.FieldsExample.{epsilon_is_needed}
use Rattle.elimination_theory.proofs.fields.epsilon_is_needed.Goals as goal

pub returns : goal.returns
returns c = epsilon_is_needed
