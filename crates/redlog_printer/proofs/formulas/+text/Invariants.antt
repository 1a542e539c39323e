use Rattle.std.proofs.Common.{◌≡◌, ◌≤◌, ◌+◌, ◌*◌, ◌++◌, length, map, drop}
use Rattle.logic_meaning.specs.Sizes.{nodes, all_nodes}
use Rattle.formula_tree.specs.Trees.{members, tree_of, trees_of}
use Rattle.logic_meaning.specs.Text.{members_text, more_text}
use Rattle.formula_laws.specs.Within.{AreTreesWithin}
use Rattle.redlog_printer.proofs.formulas.+text.Given as goal

abbrev pub decreases-put_tree : goal.decreases-put_tree
decreases-put_tree l = 4 * nodes (tree_of l.tree.now)

abbrev pub decreases-put_argument : goal.decreases-put_argument
decreases-put_argument l = 4 * nodes (tree_of l.tree.now) + 1

abbrev pub decreases-put_members : goal.decreases-put_members
decreases-put_members l = 4 * all_nodes (trees_of l.trees.now) + 3

abbrev pub decreases-put_both : goal.decreases-put_both
decreases-put_both l = 4 * (nodes (tree_of l.left.now) + nodes (tree_of l.right.now)) + 3

abbrev pub decreases-put_quantified : goal.decreases-put_quantified
decreases-put_quantified l = 4 * nodes (tree_of l.tree.now) + 1

abbrev pub decreases-put_member : goal.decreases-put_member
decreases-put_member l = 4 * nodes (tree_of l.tree.now) + 2

-- what is written and what is left is the whole text
abbrev pub invariant-put_members-loop-tree : goal.invariant-put_members-loop-tree
invariant-put_members-loop-tree l = record {
  left : l.out ++ more_text l.names l.word (members (map tree_of (drop l.tree-index l.others))) ≡ l.fn.out ++ members_text l.names l.word (trees_of l.trees);
  within : AreTreesWithin (length l.names) (members (map tree_of (drop l.tree-index l.others)));
  small : all_nodes (members (map tree_of (drop l.tree-index l.others))) ≤ all_nodes (trees_of l.trees);
}
