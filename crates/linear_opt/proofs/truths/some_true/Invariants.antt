use Rattle.std.proofs.Common.{◌≡◌, false, take}
use Rattle.linear_opt.specs.Truths.{truth_in, some_of}
use Rattle.linear_opt.proofs.truths.some_true.Given as goal

abbrev pub invariant-loop-id : goal.invariant-loop-id
invariant-loop-id l = some_of (truth_in l.table) (take l.id-index l.ids) ≡ false
