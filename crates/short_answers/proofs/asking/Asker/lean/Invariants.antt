use Rattle.std.proofs.Common.{vec_len}
use Rattle.logic_meaning.specs.Tree.{Tree}
use Rattle.normal_atoms.specs.Atoms.{context_of}
use Rattle.formula_tree.specs.Makers.{Keeps}
use Rattle.formula_store.specs.Nodes.{tree, IsId}
use Rattle.short_answers.specs.Asking.{AreFollowing, AreTidyIds}
use Rattle.short_answers.proofs.asking.Asker.lean.Given as goal

abbrev pub invariant-loop-id : goal.invariant-loop-id
invariant-loop-id g l = record {
  kept : Keeps (IsId l.fn.store) (tree l.fn.store) (IsId l.store) (tree l.store);
  left : AreTidyIds (context_of l.self.work.now.context) l.store l.left.items;
  lean : AreTidyIds (context_of l.self.work.now.context) l.store l.lean.items;
  left_following : (f : Tree) → AreFollowing l.self.work.now f l.fn.store l.fn.left.items → AreFollowing l.self.work.now f l.store l.left.items;
  lean_following : (f : Tree) → AreFollowing l.self.work.now f l.fn.store l.fn.left.items → AreFollowing l.self.work.now f l.store l.lean.items;
}

abbrev pub decreases-loop-id : goal.decreases-loop-id
decreases-loop-id g l = vec_len l.left
