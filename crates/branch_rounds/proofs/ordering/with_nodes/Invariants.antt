use Rattle.std.proofs.Common.{◌≡◌, map}
use Rattle.logic_meaning.specs.Some.{EachOf}
use Rattle.formula_store.specs.Nodes.{IsId}
use Rattle.branch_rounds.specs.Branches.{Seen}
use Rattle.branch_rounds.specs.declared.ordering.Counted.{Counted}
use Rattle.branch_rounds.proofs.ordering.with_nodes.Given as goal

abbrev pub invariant-loop-branch : goal.invariant-loop-branch
invariant-loop-branch l = record {
  counted : map (λ (one : Counted). one.branch) l.counted.items ≡ l.yielded;
  left : EachOf (λ (b : Seen). IsId l.store b.formula) l.branch-iterator.rest.items;
}
