use Rattle.std.proofs.Common.{◌≡◌, ◌≤◌, ◌+◌, ◌*◌, map, drop}
use Rattle.logic_meaning.specs.Sizes.{nodes, all_nodes}
use Rattle.logic_meaning.specs.Fold.{append}
use Rattle.formula_tree.specs.Trees.{members}
use Rattle.nnf_trees.specs.Nnfs.{nnf_of, nnfs_of, AreProper}
use Rattle.plain_samples.proofs.copying.+copied.Given as goal

abbrev pub decreases-all_copied : goal.decreases-all_copied
decreases-all_copied l = 2 * all_nodes (nnfs_of l.fs.now) + 1

abbrev pub decreases-copied : goal.decreases-copied
decreases-copied l = 2 * nodes (nnf_of l.f.now)

-- the copies and the members left are all members
abbrev pub invariant-all_copied-loop-f : goal.invariant-all_copied-loop-f
invariant-all_copied-loop-f l = record {
  left : append (members (map nnf_of l.made.items)) (members (map nnf_of (drop l.f-index l.f-items))) ≡ nnfs_of l.fs;
  small : all_nodes (members (map nnf_of (drop l.f-index l.f-items))) ≤ all_nodes (nnfs_of l.fs);
  made : AreProper l.made.items;
  rest : AreProper (drop l.f-index l.f-items);
}
