use Rattle.std.proofs.Common.{◌⊎◌, ℕ, IsTrue, ◌↔◌, take}
use Rattle.std.specs.Ordering.{nat_cmp}
use Rattle.std.specs.BTreeSet.{contains}
use Rattle.free_names.specs.Scopes.{IsIn}
use Rattle.free_names.proofs.missing.add.Given as goal

abbrev pub invariant-loop-number : goal.invariant-loop-number
invariant-loop-number l = record {
  same : (n : ℕ) → IsTrue (contains nat_cmp l.seen n) ↔ IsIn n l.union.items;
  added : (n : ℕ) → IsIn n l.union.items ↔ (IsIn n l.initial.union.items ⊎ IsIn n (take l.number-index l.numbers));
}
