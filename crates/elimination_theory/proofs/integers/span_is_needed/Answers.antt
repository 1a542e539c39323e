use Rattle.elimination_theory.proofs.IntegerExamples.{span_is_needed}
use Rattle.elimination_theory.proofs.integers.span_is_needed.Goals as goal

pub returns : goal.returns
returns c = span_is_needed
