use Rattle.test_points.proofs.PutLaws.{substitution_holds, substitution_keeps_names}
use Rattle.test_points.proofs.laws.field_substitution_is_exact.Goals as goal

pub returns : goal.returns
returns c = record { holds = substitution_holds; names = substitution_keeps_names }
