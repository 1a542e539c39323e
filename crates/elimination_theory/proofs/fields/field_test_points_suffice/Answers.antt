use Rattle.elimination_theory.proofs.FieldsSuffice.{field_points_suffice}
use Rattle.elimination_theory.proofs.fields.field_test_points_suffice.Goals as goal

pub returns : goal.returns
returns c = field_points_suffice
