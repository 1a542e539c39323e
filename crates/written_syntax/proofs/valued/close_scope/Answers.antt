use Rattle.std.proofs.Common.{List, ℕ, subst, sym}
use Rattle.std.specs.Ordering.{nat_cmp}
use Rattle.std.specs.Cmp.Lexicographic.{slice_cmp}
use Rattle.std.specs.BTreeSet.{contains}
use Rattle.written_syntax.specs.Valued.{IsClosed}
use Rattle.written_syntax.proofs.EntryLists.{more_entries}
use Rattle.written_syntax.proofs.NameSearch.{closed_more}
use Rattle.written_syntax.proofs.valued.close_scope.Goals as goal

pub loop-name-preserved : goal.loop-name-preserved
loop-name-preserved c =
    let old = contains (slice_cmp nat_cmp) c.args.names.now in
    let now = contains (slice_cmp nat_cmp) c.loop-name.names in
    let new = contains (slice_cmp nat_cmp) c.remove.new.self in
    subst (λ (out : List (List ℕ)). IsClosed old new out) (sym (more_entries c.args.opened.now c.loop-name.name-index c.name-item.result c.loop-name-test.true c.name-item.is))
    (closed_more old now new _ _ c.loop-name.invariant (λ x. c.remove.ensures.updates.0 x))
