use Rattle.std.proofs.Common.{◌≡◌, vec_len}
use Rattle.logic_meaning.specs.Tree.{Tree}
use Rattle.formula_tree.specs.Makers.{Keeps}
use Rattle.formula_store.specs.Nodes.{tree, IsId}
use Rattle.short_answers.specs.Asking.{AreFollowing}
use Rattle.short_answers.specs.Candidates.{AreCandidates}
use Rattle.short_answers.specs.Cases.{AreCasesOf}
use Rattle.short_answers.proofs.asking.Asker.following.Given as goal

abbrev pub invariant-loop-atom : goal.invariant-loop-atom
invariant-loop-atom g l = record {
  kept : Keeps (IsId l.fn.store) (tree l.fn.store) (IsId l.store) (tree l.store);
  context : l.candidates.context ≡ l.fn.candidates.context;
  candidates : AreCandidates l.candidates.context l.candidates.atoms.items;
  following : (f : Tree) → AreCasesOf f l.fn.store l.cases → AreFollowing l.self.work.now f l.store l.following.items;
}

abbrev pub decreases-loop-atom : goal.decreases-loop-atom
decreases-loop-atom g l = vec_len l.candidates.atoms
