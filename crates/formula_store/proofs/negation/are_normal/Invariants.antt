use Rattle.std.proofs.Common.{take}
use Rattle.std.specs.List.{AllByRecursion}
use Rattle.formula_store.specs.Normal.{BeginsNormal}
use Rattle.formula_store.proofs.negation.are_normal.Given as goal

abbrev pub invariant-loop-id : goal.invariant-loop-id
invariant-loop-id l = AllByRecursion (BeginsNormal l.store) (take l.id-index l.ids)
