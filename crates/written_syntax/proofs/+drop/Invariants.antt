use Rattle.std.proofs.Common.{◌≤◌}
use Rattle.written_syntax.specs.declared.tree.Formula.{size-Formula}
use Rattle.written_syntax.proofs.+drop.Given as goal

-- what is left to free is no larger than the whole
abbrev pub invariant-tree::Formula::drop-chain : goal.invariant-tree::Formula::drop-chain
invariant-tree::Formula::drop-chain l = size-Formula l.self ≤ size-Formula l.initial.self
