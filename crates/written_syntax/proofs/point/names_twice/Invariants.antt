use Rattle.std.proofs.Common.{IsTrue, ◌↔◌, ℕ, List, take}
use Rattle.std.specs.Ordering.{nat_cmp}
use Rattle.std.specs.Cmp.Lexicographic.{slice_cmp}
use Rattle.std.specs.BTreeSet.{contains}
use Rattle.language_meaning.specs.Point.{HasEntry, NamesTwice}
use Rattle.written_syntax.proofs.point.names_twice.Given as goal

-- the set has the names so far, and none of them stands twice
abbrev pub invariant-loop-entry : goal.invariant-loop-entry
invariant-loop-entry l = record {
  seen : (x : List ℕ) → IsTrue (contains (slice_cmp nat_cmp) l.seen x) ↔ HasEntry x (take l.entry-index l.entries);
  single : ¬ (NamesTwice (take l.entry-index l.entries));
}
