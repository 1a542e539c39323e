use Rattle.std.proofs.Common.{ℕ, List, IsTrue, IsTrue, sym, ◌∙◌, subst, ⊎_elim, rules}
use Rattle.std.specs.Ordering.{nat_cmp}
use Rattle.std.specs.Cmp.Lexicographic.{slice_cmp}
use Rattle.std.specs.BTreeSet.{contains}
use Rattle.language_meaning.specs.Point.{HasEntry, NamesTwice}
use Rattle.written_syntax.proofs.EntryLists.{twice_found, twice_push, more_entries, around, seen_more}
use Rattle.std.proofs.lemmas.Bool.{false≢true, not-true, not-false}
use Rattle.written_syntax.proofs.point.names_twice.Goals as goal

pub returns-then-not-branch : goal.returns-then-not-branch
returns-then-not-branch c = (
  λ _. subst NamesTwice (around c.args.entries.now c.loop-entry.entry-index c.entry-item.result c.loop-entry-test.true c.entry-item.is)
      (twice_found _ c.entry-item.result _ ((c.loop-entry.invariant.seen c.entry-item.result.name).0 (not-false _ (sym c.in_ok-insert.ensures.added ∙ c.if-not-branch.true)))),
  λ _. search rules,
)

pub loop-entry-preserved : goal.loop-entry-preserved
loop-entry-preserved c =
    let more = more_entries c.args.entries.now c.loop-entry.entry-index c.entry-item.result c.loop-entry-test.true c.entry-item.is in
    record {
      seen = subst (λ (es : List _). (x : List ℕ) → (IsTrue (contains (slice_cmp nat_cmp) c.insert.new.self x) → HasEntry x es) × (HasEntry x es → IsTrue (contains (slice_cmp nat_cmp) c.insert.new.self x)))
          (sym more) (seen_more _ _ _ _ c.loop-entry.invariant.seen (λ x. c.in_ok-insert.ensures.updates.0 x));
      single = λ twice. ⊎_elim c.loop-entry.invariant.single (λ has. false≢true (sym (not-true _ (sym c.in_ok-insert.ensures.added ∙ c.if-not-branch.false)) ∙ (c.loop-entry.invariant.seen c.entry-item.result.name).1 has)) (twice_push _ _ (subst NamesTwice more twice));
    }
