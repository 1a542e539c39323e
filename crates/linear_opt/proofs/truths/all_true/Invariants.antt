use Rattle.std.proofs.Common.{◌≡◌, true, take}
use Rattle.linear_opt.specs.Truths.{truth_in, all_of}
use Rattle.linear_opt.proofs.truths.all_true.Given as goal

abbrev pub invariant-loop-id : goal.invariant-loop-id
invariant-loop-id l = all_of (truth_in l.table) (take l.id-index l.ids) ≡ true
