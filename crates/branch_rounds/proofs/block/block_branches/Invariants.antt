use Rattle.std.proofs.Common.{◌≡◌, ◌≤◌, [], ◌∷◌, length, drop}
use Rattle.logic_meaning.specs.Answer.{Place}
use Rattle.logic_meaning.specs.Some.{EachOf}
use Rattle.normal_atoms.specs.Atoms.{context_of}
use Rattle.logic_meaning.specs.declared.form.VarId.{VarId}
use Rattle.formula_tree.specs.Makers.{Keeps}
use Rattle.formula_store.specs.Nodes.{tree, IsId}
use Rattle.branch_rounds.specs.Branches.{Seen, IsOpen, ArePendingOf, numbers}
use Rattle.branch_rounds.specs.Rounds.{IsDirectAt, IsLeftAlone}
use Rattle.branch_rounds.proofs.block.block_branches.Given as goal

-- the branches stand for the block, each with as many names as are to come
abbrev pub invariant-loop-name : goal.invariant-loop-name
invariant-loop-name g l = record {
  kept : Keeps (IsId l.fn.store) (tree l.fn.store) (IsId l.store) (tree l.store);
  are_open : EachOf (IsOpen l.fn.work l.store) l.branches.items;
  many : EachOf (λ (b : Seen). length b.left ≡ length (drop l._name-index l.block)) l.branches.items;
  first : l._name-index ≡ 0 → l.branches.items ≡ record { formula = l.fn.matrix; points = []; left = l.block } ∷ [];
  budget : l._name-index ≡ 0 → l.fn.budget.nodes ≡ l.budget.nodes;
  alone : (x : VarId) (s : Place) → IsDirectAt (context_of l.fn.work.context) l.fn.budget.nodes (tree l.fn.store l.fn.matrix) l.block x s → 1 ≤ l._name-index →
      IsLeftAlone (context_of l.fn.work.context) x.number s (tree l.fn.store l.fn.matrix) l.store l.branches.items;
  pending : ArePendingOf l.fn.work (tree l.fn.store l.fn.matrix) (numbers l.block) l.store l.branches.items;
}
