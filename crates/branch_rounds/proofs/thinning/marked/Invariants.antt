use Rattle.std.proofs.Common.{◌≡◌, ◌++◌}
use Rattle.branch_pruning.specs.FromAtomPruning.{marked as marked_of}
use Rattle.branch_rounds.proofs.thinning.marked.Given as goal

-- what is kept, and what is still to come
abbrev pub invariant-loop-branch : goal.invariant-loop-branch
invariant-loop-branch l = l.kept.items ++ marked_of l.marks.rest.now l.branch-iterator.rest.items ≡ marked_of l.marks-2 l.fn.branches.items
