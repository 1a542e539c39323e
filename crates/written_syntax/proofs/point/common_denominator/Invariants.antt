use Rattle.std.proofs.Common.{drop}
use Rattle.written_syntax.proofs.EntryNumbers.{SoFar}
use Rattle.written_syntax.proofs.point.common_denominator.Given as goal

abbrev pub invariant-loop-entry : goal.invariant-loop-entry
invariant-loop-entry l = SoFar l.entries (drop l.entry-index l.entries) l.common
