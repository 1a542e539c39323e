use Rattle.std.proofs.Common.{◌≤◌, ◌+◌, ◌*◌, map, drop, false, true}
use Rattle.logic_meaning.specs.Sizes.{nodes, all_nodes}
use Rattle.formula_tree.specs.Trees.{members, tree_of, trees_of}
use Rattle.nnf_trees.specs.Forms.{forms}
use Rattle.nnf_trees.proofs.Counting.{CountsBefore}
use Rattle.nnf_trees.proofs.sizes.+sizes.Given as goal

abbrev pub decreases-all_sizes : goal.decreases-all_sizes
decreases-all_sizes l = 2 * all_nodes (trees_of l.members.now) + 1

abbrev pub decreases-form_sizes : goal.decreases-form_sizes
decreases-form_sizes l = 2 * nodes (tree_of l.f.now)

-- what is counted and what is left is the whole
abbrev pub invariant-all_sizes-loop-member : goal.invariant-all_sizes-loop-member
invariant-all_sizes-loop-member l = record {
  plain : CountsBefore l.total.plain (all_nodes (forms false (members (map tree_of (drop l.member-index l.member-items))))) (all_nodes (forms false (trees_of l.members)));
  negated : CountsBefore l.total.negated (all_nodes (forms true (members (map tree_of (drop l.member-index l.member-items))))) (all_nodes (forms true (trees_of l.members)));
  small : all_nodes (members (map tree_of (drop l.member-index l.member-items))) ≤ all_nodes (trees_of l.members);
}
