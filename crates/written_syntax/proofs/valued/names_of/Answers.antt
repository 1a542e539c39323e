use Rattle.std.proofs.Common.{ℕ, List, IsTrue, subst, sym}
use Rattle.std.specs.Ordering.{nat_cmp}
use Rattle.std.specs.Cmp.Lexicographic.{slice_cmp}
use Rattle.std.specs.BTreeSet.{contains}
use Rattle.language_meaning.specs.Point.{HasEntry}
use Rattle.written_syntax.proofs.EntryLists.{more_entries, seen_more}
use Rattle.written_syntax.proofs.valued.names_of.Goals as goal

pub loop-entry-preserved : goal.loop-entry-preserved
loop-entry-preserved c =
    let more = more_entries c.args.entries.now c.loop-entry.entry-index c.entry-item.result c.loop-entry-test.true c.entry-item.is in
    subst (λ (es : List _). (x : List ℕ) → (IsTrue (contains (slice_cmp nat_cmp) c.insert.new.self x) → HasEntry x es) × (HasEntry x es → IsTrue (contains (slice_cmp nat_cmp) c.insert.new.self x)))
    (sym more) (seen_more _ _ _ _ c.loop-entry.invariant (λ x. c.in_ok-insert.ensures.updates.0 x))
