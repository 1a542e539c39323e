use Rattle.std.proofs.Common.{◌≡◌, ◌≤◌, ◌+◌, ◌*◌, max, map, drop}
use Rattle.logic_meaning.specs.Shape.{most_blocks}
use Rattle.logic_meaning.specs.Sizes.{nodes, all_nodes}
use Rattle.formula_tree.specs.Trees.{members}
use Rattle.nnf_trees.specs.Nnfs.{nnf_of, nnfs_of}
use Rattle.prenex_forms.proofs.front.+blocks.Given as goal

abbrev pub decreases-most_blocks : goal.decreases-most_blocks
decreases-most_blocks l = 2 * all_nodes (nnfs_of l.members.now) + 1

abbrev pub decreases-blocks_from : goal.decreases-blocks_from
decreases-blocks_from l = 2 * nodes (nnf_of l.f.now)

-- what the members so far need and what those left need
abbrev pub invariant-most_blocks-loop-member : goal.invariant-most_blocks-loop-member
invariant-most_blocks-loop-member l = record {
  left : max l.most (most_blocks (members (map nnf_of (drop l.member-index l.member-items))) l.kind) ≡ most_blocks (nnfs_of l.members) l.kind;
  small : all_nodes (members (map nnf_of (drop l.member-index l.member-items))) ≤ all_nodes (nnfs_of l.members);
}
