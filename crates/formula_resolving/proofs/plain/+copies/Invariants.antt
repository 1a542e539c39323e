use Rattle.std.proofs.Common.{◌≡◌, ◌+◌, ◌*◌, map, take}
use Rattle.logic_meaning.specs.Sizes.{nodes, all_nodes}
use Rattle.formula_tree.specs.Trees.{tree_of, members}
use Rattle.formula_resolving.proofs.plain.+copies.Given as goal

abbrev pub invariant-all_copied-loop-tree : goal.invariant-all_copied-loop-tree
invariant-all_copied-loop-tree l = map tree_of l.copies.items ≡ map tree_of (take l.tree-index l.trees)

abbrev pub decreases-copied : goal.decreases-copied
decreases-copied l = 2 * nodes (tree_of l.tree.now)

abbrev pub decreases-all_copied : goal.decreases-all_copied
decreases-all_copied l = 2 * all_nodes (members (map tree_of l.trees.now)) + 1
