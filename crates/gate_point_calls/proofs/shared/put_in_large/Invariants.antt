use Rattle.gate_point_calls.specs.Taking.{Takes}
use Rattle.gate_point_calls.proofs.shared.put_in_large.Given as goal

abbrev pub invariant-loop-level : goal.invariant-loop-level
invariant-loop-level l = Takes l.store l.id
