use Rattle.elimination_theory.proofs.Overflow.{span_limits}
use Rattle.elimination_theory.proofs.integers.span_limits_all.Goals as goal

pub returns : goal.returns
returns c = span_limits
