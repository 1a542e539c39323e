use Rattle.std.proofs.Common.{◌≡◌, ◌++◌, map}
use Rattle.branch_rounds.specs.declared.ordering.Counted.{Counted}
use Rattle.branch_rounds.proofs.ordering.put_on_top.Given as goal

-- the branches so far and those of what is left are all
abbrev pub invariant-loop-branch : goal.invariant-loop-branch
invariant-loop-branch l = record {
  can : (goal.iterator-loop-branch).can_next l.branch-iterator;
  finite : (goal.iterator-loop-branch).is_finite l.branch-iterator;
  all : l.open.items ++ map (λ (one : Counted). one.branch) l.branch-iterator.rest.items ≡ l.initial.open.items ++ map (λ (one : Counted). one.branch) l.initial.branch-iterator.rest.items;
}
