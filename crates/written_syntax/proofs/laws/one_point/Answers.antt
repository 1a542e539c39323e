use Rattle.written_syntax.proofs.OnePoint.{one_point}
use Rattle.written_syntax.proofs.laws.one_point.Goals as goal

pub returns : goal.returns
returns c = one_point
