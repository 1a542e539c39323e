use Rattle.std.proofs.Common.{◌≡◌, ◌++◌}
use Rattle.branch_pruning.specs.FromAtomPruning.{marked as marked_of}
use Rattle.engine_answers.proofs.short.marked.Given as goal

-- what is kept, and what is still to come
abbrev pub invariant-loop-case : goal.invariant-loop-case
invariant-loop-case l = l.kept.items ++ marked_of l.marks.rest.now l.case-iterator.rest.items ≡ marked_of l.marks-2 l.fn.cases.items
