use Rattle.elimination_theory.proofs.IntegerExamples.{guard_is_needed}
use Rattle.elimination_theory.proofs.integers.guard_is_needed.Goals as goal

pub returns : goal.returns
returns c = guard_is_needed
