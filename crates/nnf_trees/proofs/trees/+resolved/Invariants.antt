use Rattle.std.proofs.Common.{◌≡◌, ◌≤◌, ◌+◌, ◌*◌, map}
use Rattle.logic_meaning.specs.Sizes.{nodes, all_nodes}
use Rattle.logic_meaning.specs.Fold.{append}
use Rattle.formula_tree.specs.Trees.{members, tree_of}
use Rattle.nnf_trees.specs.Nnfs.{nnf_of, nnfs_of}
use Rattle.nnf_trees.proofs.trees.+resolved.Given as goal

abbrev pub decreases-into_trees : goal.decreases-into_trees
decreases-into_trees l = 2 * all_nodes (nnfs_of l.fs) + 1

abbrev pub decreases-into_tree : goal.decreases-into_tree
decreases-into_tree l = 2 * nodes (nnf_of l.f)

-- the trees that are made and those of the members left are all
abbrev pub invariant-into_trees-loop-f : goal.invariant-into_trees-loop-f
invariant-into_trees-loop-f l = record {
  can : (goal.iterator-into_trees-loop-f).can_next l.f-iterator;
  finite : (goal.iterator-into_trees-loop-f).is_finite l.f-iterator;
  left : append (members (map tree_of l.trees.items)) (members (map nnf_of l.f-iterator.rest.items)) ≡ nnfs_of l.fn.fs;
  small : all_nodes (members (map nnf_of l.f-iterator.rest.items)) ≤ all_nodes (nnfs_of l.fn.fs);
}
