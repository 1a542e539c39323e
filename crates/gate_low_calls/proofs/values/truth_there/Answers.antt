use Rattle.gate_low_calls.proofs.values.truth_there.Goals as goal

pub truth_at-requires-clause-testable : goal.truth_at-requires-clause-testable
truth_at-requires-clause-testable c = c.in_ok-formula.ensures.testable _
