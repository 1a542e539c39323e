use Rattle.std.proofs.Common.{take}
use Rattle.std.specs.List.{AllByRecursion}
use Rattle.normal_forms.specs.Sizes.{IsThere, IsTold}
use Rattle.normal_forms.proofs.sizes.all_sizes.Given as goal

abbrev pub invariant-loop-id : goal.invariant-loop-id
invariant-loop-id l = record {
  told : IsTold l.inner l.store l.table;
  there : AllByRecursion (IsThere l.table) (take l.id-index l.id-items);
}
