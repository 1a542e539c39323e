use Rattle.std.proofs.Common.{ℕ, IsTrue, ◌↔◌, take}
use Rattle.std.specs.Ordering.{nat_cmp}
use Rattle.std.specs.BTreeSet.{contains}
use Rattle.logic_meaning.specs.Some.{SomeOf}
use Rattle.free_names.specs.Scopes.{IsIn}
use Rattle.free_names.specs.Missing.{numbers_at}
use Rattle.free_names.proofs.missing.union.Given as goal

abbrev pub invariant-loop-id : goal.invariant-loop-id
invariant-loop-id l = record {
  same : (n : ℕ) → IsTrue (contains nat_cmp l.seen n) ↔ IsIn n l.union.items;
  added : (n : ℕ) → IsIn n l.union.items ↔ SomeOf (λ id. IsIn n (numbers_at l.table id)) (take l.id-index l.ids);
}
