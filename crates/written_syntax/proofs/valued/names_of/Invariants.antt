use Rattle.std.proofs.Common.{IsTrue, ◌↔◌, ℕ, List, take}
use Rattle.std.specs.Ordering.{nat_cmp}
use Rattle.std.specs.Cmp.Lexicographic.{slice_cmp}
use Rattle.std.specs.BTreeSet.{contains}
use Rattle.language_meaning.specs.Point.{HasEntry}
use Rattle.written_syntax.proofs.valued.names_of.Given as goal

-- the set has the names so far
abbrev pub invariant-loop-entry : goal.invariant-loop-entry
invariant-loop-entry l = (x : List ℕ) → IsTrue (contains (slice_cmp nat_cmp) l.names x) ↔ HasEntry x (take l.entry-index l.entries)
