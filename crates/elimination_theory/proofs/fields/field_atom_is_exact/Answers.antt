use Rattle.elimination_theory.proofs.FieldsSubstitute.{atom_substitution_exact}
use Rattle.elimination_theory.proofs.fields.field_atom_is_exact.Goals as goal

pub returns : goal.returns
returns c = atom_substitution_exact
