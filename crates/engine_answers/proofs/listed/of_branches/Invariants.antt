use Rattle.std.proofs.Common.{◌≡◌, ◌++◌, map}
use Rattle.engine_answers.specs.Listed.{told_case, told_branch}
use Rattle.engine_answers.proofs.listed.of_branches.Given as goal

-- the branches so far have become cases
abbrev pub invariant-loop-branch : goal.invariant-loop-branch
invariant-loop-branch l = record {
  can : (goal.iterator-loop-branch).can_next l.branch-iterator;
  finite : (goal.iterator-loop-branch).is_finite l.branch-iterator;
  cases : map told_case l.cases.items ++ map told_branch l.branch-iterator.rest.items ≡ map told_branch l.fn.branches.items;
}
