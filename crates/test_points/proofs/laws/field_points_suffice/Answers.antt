use Rattle.test_points.proofs.PutLaws.{points_suffice, points_keep_names}
use Rattle.test_points.proofs.laws.field_points_suffice.Goals as goal

pub returns : goal.returns
returns c = record { suffice = points_suffice; names = points_keep_names }
