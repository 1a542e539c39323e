use Rattle.test_points.proofs.PointLaws.{holds, substitution_keeps}
use Rattle.test_points.proofs.cooper_periods_laws.integer_substitution_is_exact.Goals as goal

pub returns : goal.returns
returns c = record { holds = holds; names = substitution_keeps }
