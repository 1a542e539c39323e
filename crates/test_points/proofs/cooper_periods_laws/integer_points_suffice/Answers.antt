use Rattle.test_points.proofs.PointLaws.{suffice, suit, keep_names}
use Rattle.test_points.proofs.cooper_periods_laws.integer_points_suffice.Goals as goal

pub returns : goal.returns
returns c = record { suffice = suffice; suit = suit; names = keep_names }
