use Rattle.std.proofs.Common.{take}
use Rattle.std.specs.List.{AllByRecursion}
use Rattle.linear_opt.specs.Values.{told}
use Rattle.linear_opt.specs.Truths.{HasTruth}
use Rattle.linear_opt.proofs.truths.Listed.truth.Given as goal

abbrev pub invariant-loop-id : goal.invariant-loop-id
invariant-loop-id l = AllByRecursion (HasTruth (told l.z.number l.value) l.self.store.now l.table) (take l.id-index l.self.ids.now)
