use Rattle.std.proofs.Common.{drop}
use Rattle.written_syntax.proofs.EntryNumbers.{NumbersSoFar}
use Rattle.written_syntax.proofs.point.numbers_over.Given as goal

abbrev pub invariant-loop-entry : goal.invariant-loop-entry
invariant-loop-entry l = NumbersSoFar l.entries (drop l.entry-index l.entries) l.denominator l.numbers.entries
