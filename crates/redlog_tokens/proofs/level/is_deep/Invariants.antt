use Rattle.std.proofs.Common.{drop}
use Rattle.redlog_tokens.proofs.Counts.{ShallowSoFar}
use Rattle.redlog_tokens.proofs.level.is_deep.Given as goal

abbrev pub invariant-terminals : goal.invariant-terminals
invariant-terminals l = ShallowSoFar l.levels l.terminals (drop l.terminal-index l.terminals)
