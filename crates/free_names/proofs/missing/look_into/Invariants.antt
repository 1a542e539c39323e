use Rattle.std.proofs.Common.{take}
use Rattle.std.specs.List.{AllByRecursion}
use Rattle.std.specs.Ordering.{nat_cmp}
use Rattle.std.specs.BTreeSet.{contains}
use Rattle.free_names.specs.Missing.{IsThere, IsSound}
use Rattle.free_names.proofs.missing.look_into.Given as goal

abbrev pub invariant-loop-id : goal.invariant-loop-id
invariant-loop-id l = record {
  sound : IsSound l.store (contains nat_cmp l.valued) l.table;
  there : AllByRecursion (IsThere l.table) (take l.id-index l.id-items);
}
