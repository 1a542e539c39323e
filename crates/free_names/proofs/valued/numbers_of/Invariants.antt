use Rattle.std.proofs.Common.{IsTrue, ◌↔◌, ℕ, take}
use Rattle.std.specs.Ordering.{nat_cmp}
use Rattle.std.specs.BTreeSet.{contains}
use Rattle.logic_meaning.specs.Names.{place}
use Rattle.language_meaning.specs.Entries.{HasEntryAt}
use Rattle.free_names.proofs.valued.numbers_of.Given as goal

-- the set has the numbers so far
abbrev pub invariant-loop-entry : goal.invariant-loop-entry
invariant-loop-entry l = (n : ℕ) → IsTrue (contains nat_cmp l.valued n) ↔ HasEntryAt (place l.names) (take l.entry-index l.entries) n
