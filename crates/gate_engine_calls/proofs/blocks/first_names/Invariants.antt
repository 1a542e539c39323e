use Rattle.gate_engine_calls.proofs.FirstNames.{AreBelow}
use Rattle.gate_engine_calls.proofs.blocks.first_names.Given as goal

-- the names so far have the numbers below the next one
abbrev pub invariant-loop-number : goal.invariant-loop-number
invariant-loop-number l = AreBelow l.number l.names.items
