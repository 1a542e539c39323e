use Rattle.std.proofs.Common.{ℕ, subst}
use Rattle.std.specs.Ordering.{nat_cmp}
use Rattle.std.specs.BTreeSet.{contains}
use Rattle.language_meaning.specs.declared.entries.PointEntry.{PointEntry}
use Rattle.written_syntax.proofs.EntryLists.{more_entries}
use Rattle.logic_meaning.specs.Names.{place}
use Rattle.free_names.proofs.Lists.{Puts, seen_more}
use Rattle.free_names.proofs.valued.numbers_of.Goals as goal

pub loop-entry-preserved : goal.loop-entry-preserved
loop-entry-preserved c =
    let number = place c.args.names.now in
    let e : PointEntry = c.entry-item.result in
    let old = contains nat_cmp c.loop-entry.valued in
    let new = contains nat_cmp c.insert.new.self in
    let more = more_entries c.args.entries.now c.loop-entry.entry-index e c.loop-entry-test.true c.entry-item.is in
    let puts : Puts old new (number e.name) = subst (λ (k : ℕ). Puts old new k) c.place.ensures (λ n. c.in_ok-insert.ensures.updates.0 n) in
    rw more (seen_more (λ (x : PointEntry). number x.name) old new _ e c.loop-entry.invariant puts)
