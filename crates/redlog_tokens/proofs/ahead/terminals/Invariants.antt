use Rattle.std.proofs.Common.{◌≤◌, ◌-◌, length}
use Rattle.redlog_tokens.proofs.AheadLemmas.{HaveCome}
use Rattle.redlog_tokens.proofs.ahead.terminals.Given as goal

abbrev pub invariant-fronts : goal.invariant-fronts
invariant-fronts l = (l.from ≤ length l.bytes) × HaveCome l.bytes l.from l.list.items

abbrev pub decreases-fronts : goal.decreases-fronts
decreases-fronts l = length l.bytes - l.from
