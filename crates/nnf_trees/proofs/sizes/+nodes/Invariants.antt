use Rattle.std.proofs.Common.{◌≡◌, ◌+◌, ◌*◌, ◌<◌, ◌^◌, map, drop}
use Rattle.logic_meaning.specs.Sizes.{nodes, all_nodes}
use Rattle.formula_tree.specs.Trees.{members}
use Rattle.nnf_trees.specs.Nnfs.{nnf_of, nnfs_of}
use Rattle.nnf_trees.proofs.sizes.+nodes.Given as goal

abbrev pub decreases-all_nodes : goal.decreases-all_nodes
decreases-all_nodes l = 2 * all_nodes (nnfs_of l.members.now) + 1

abbrev pub decreases-nodes : goal.decreases-nodes
decreases-nodes l = 2 * nodes (nnf_of l.f.now)

-- what is counted and what is left is the whole
abbrev pub invariant-all_nodes-loop-member : goal.invariant-all_nodes-loop-member
invariant-all_nodes-loop-member l = record {
  left : l.count + all_nodes (members (map nnf_of (drop l.member-index l.member-items))) ≡ all_nodes (nnfs_of l.members);
  small : l.count < 2 ^ 64;
}
