use Rattle.std.proofs.Common.{◌≡◌, take}
use Rattle.branch_pruning.specs.FromAtomPruning.{marked as marked_of}
use Rattle.short_answers.proofs.thinning.marked.Given as goal

abbrev pub invariant-loop-place : goal.invariant-loop-place
invariant-loop-place l = l.left.items ≡ marked_of (take l.place l.marks) (take l.place l.ids)
