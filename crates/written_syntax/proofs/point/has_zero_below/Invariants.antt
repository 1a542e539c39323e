use Rattle.std.proofs.Common.{drop}
use Rattle.language_meaning.specs.Point.{IsZeroBelow}
use Rattle.written_syntax.proofs.EntryLists.{Unfound}
use Rattle.written_syntax.proofs.point.has_zero_below.Given as goal

abbrev pub invariant-loop-entry : goal.invariant-loop-entry
invariant-loop-entry l = Unfound IsZeroBelow l.entries (drop l.entry-index l.entries)
