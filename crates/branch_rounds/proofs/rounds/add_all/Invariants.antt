use Rattle.std.proofs.Common.{List}
use Rattle.branch_rounds.specs.Branches.{Seen}
use Rattle.branch_rounds.specs.Rounds.{IsSpreadOver}
use Rattle.branch_rounds.proofs.rounds.add_all.Given as goal

-- what comes of the branches that are left comes of all
abbrev pub invariant-loop-branch : goal.invariant-loop-branch
invariant-loop-branch l = record {
  can : (goal.iterator-loop-branch).can_next l.branch-iterator;
  finite : (goal.iterator-loop-branch).is_finite l.branch-iterator;
  goes_on : (new : List Seen) → IsSpreadOver l.spread l.branch-iterator.rest.items new → IsSpreadOver l.initial.spread l.fn.branches.items new;
}
