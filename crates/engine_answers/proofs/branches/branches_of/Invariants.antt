use Rattle.std.proofs.Common.{◌<◌, length}
use Rattle.normal_atoms.specs.Atoms.{context_of}
use Rattle.formula_store.specs.Nodes.{tree}
use Rattle.engine_answers.proofs.Branching.{AreBuilt}
use Rattle.engine_answers.proofs.branches.branches_of.Given as goal

abbrev pub invariant-loop-place : goal.invariant-loop-place
invariant-loop-place l = record {
  built : AreBuilt (context_of l.context) l.answers (tree l.fn.store l.fn.matrix) l.fn.store l.store l.place l.branch l.ids.items;
  below : l.place < length l.answers;
}

abbrev pub decreases-loop-place : goal.decreases-loop-place
decreases-loop-place l = l.place
