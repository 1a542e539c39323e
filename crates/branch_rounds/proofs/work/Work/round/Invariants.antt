use Rattle.std.proofs.Common.{◌≡◌, ◌⊎◌, ℕ, suc, ◌<◌, List, [], ◌∷◌, ◌++◌, length}
use Rattle.logic_meaning.specs.Some.{EachOf, SomeOf}
use Rattle.logic_meaning.specs.Answer.{Place}
use Rattle.logic_meaning.specs.Tree.{Tree}
use Rattle.normal_atoms.specs.Atoms.{context_of}
use Rattle.logic_meaning.specs.declared.form.VarId.{VarId}
use Rattle.formula_tree.specs.Makers.{Keeps}
use Rattle.formula_store.specs.Nodes.{tree, IsId}
use Rattle.branch_rounds.specs.Branches.{Seen, IsOpen, ArePendingOf}
use Rattle.branch_rounds.specs.Rounds.{PassesAt, IsDirectAt, IsLeftAlone}
use Rattle.branch_rounds.proofs.work.Work.round.Given as goal

-- what is made and what is to come stand for what all did
abbrev pub invariant-loop-branch : goal.invariant-loop-branch
invariant-loop-branch g l = record {
  can : (goal.iterator-loop-branch g).can_next l.branch-iterator;
  finite : (goal.iterator-loop-branch g).is_finite l.branch-iterator;
  kept : Keeps (IsId l.fn.store) (tree l.fn.store) (IsId l.store) (tree l.store);
  made_open : EachOf (IsOpen l.self l.store) l.spread;
  left_open : EachOf (IsOpen l.self l.store) l.branch-iterator.rest.items;
  as_first : EachOf (IsOpen l.self l.fn.store) l.branch-iterator.rest.items;
  among : SomeOf (λ (b : Seen). PassesAt l.self.context (tree l.fn.store b.formula) b.left) l.branch-iterator.rest.items → SomeOf (λ (b : Seen). PassesAt l.self.context (tree l.fn.store b.formula) b.left) l.fn.branches.items;
  some : EachOf (λ (b : Seen). 0 < length b.left) l.branch-iterator.rest.items;
  made_fewer : (n : ℕ) → EachOf (λ (b : Seen). length b.left ≡ suc n) l.fn.branches.items → EachOf (λ (b : Seen). length b.left ≡ n) l.spread;
  left_many : (n : ℕ) → EachOf (λ (b : Seen). length b.left ≡ suc n) l.fn.branches.items → EachOf (λ (b : Seen). length b.left ≡ suc n) l.branch-iterator.rest.items;
  alone : (b : Seen) (x : VarId) (s : Place) → l.fn.branches.items ≡ b ∷ [] → IsDirectAt (context_of l.self.context) l.fn.budget.nodes (tree l.fn.store b.formula) b.left x s →
      ((l.branch-iterator.rest.items ≡ b ∷ []) × (l.spread ≡ []) × (l.fn.budget.nodes ≡ l.budget.nodes))
      ⊎ ((l.branch-iterator.rest.items ≡ []) × IsLeftAlone (context_of l.self.context) x.number s (tree l.fn.store b.formula) l.store l.spread);
  pending : (matrix : Tree) (block : List ℕ) → ArePendingOf l.self matrix block l.fn.store l.fn.branches.items → ArePendingOf l.self matrix block l.store (l.spread ++ l.branch-iterator.rest.items);
}
