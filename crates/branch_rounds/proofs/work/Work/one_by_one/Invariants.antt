use Rattle.std.proofs.Common.{◌≡◌, ◌+◌, ◌++◌, [], length}
use Rattle.logic_meaning.specs.Some.{EachOf}
use Rattle.formula_tree.specs.Makers.{Keeps}
use Rattle.formula_store.specs.Nodes.{tree, IsId}
use Rattle.branch_rounds.specs.Branches.{Seen, numbers}
use Rattle.branch_rounds.proofs.Onward.{AreOnward}
use Rattle.branch_rounds.proofs.work.Work.one_by_one.Given as goal

-- the branches that are worked on and those that ended stand for the block
abbrev pub invariant-loop-branch : goal.invariant-loop-branch
invariant-loop-branch g l = record {
  kept : Keeps (IsId l.fn.store) (tree l.fn.store) (IsId l.store) (tree l.store);
  onward : AreOnward l.self (tree l.fn.store l.fn.matrix) (numbers l.block) l.store (l.open.items ++ l.ended.items) l.past;
  ended : EachOf (λ (b : Seen). b.left ≡ []) l.ended.items;
}

-- a step costs more nodes than the branches that come of it
abbrev pub decreases-loop-branch : goal.decreases-loop-branch
decreases-loop-branch g l = l.budget.nodes + length l.open.items
