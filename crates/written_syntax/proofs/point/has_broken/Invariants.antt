use Rattle.std.proofs.Common.{drop}
use Rattle.std.specs.List.{AllByRecursion}
use Rattle.language_meaning.specs.declared.entries.PointEntry.{PointEntry}
use Rattle.written_syntax.specs.Proper.{IsProperEntry}
use Rattle.language_meaning.specs.Point.{IsBroken, IsZeroBelow}
use Rattle.written_syntax.proofs.EntryLists.{Unfound}
use Rattle.written_syntax.proofs.point.has_broken.Given as goal

abbrev pub invariant-loop-entry : goal.invariant-loop-entry
invariant-loop-entry l = record {
  unfound : Unfound IsBroken l.entries (drop l.entry-index l.entries);
  proper : AllByRecursion (λ (e : PointEntry). IsProperEntry e × (¬ (IsZeroBelow e))) (drop l.entry-index l.entries);
}
