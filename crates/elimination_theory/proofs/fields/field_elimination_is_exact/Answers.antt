use Rattle.elimination_theory.proofs.FieldsEliminated.{field_elimination_exact}
use Rattle.elimination_theory.proofs.fields.field_elimination_is_exact.Goals as goal

pub returns : goal.returns
returns c = field_elimination_exact
