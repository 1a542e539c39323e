use Rattle.std.proofs.Common.{◌≡◌, ◌≤◌, ◌+◌, ◌*◌, map, drop, true}
use Rattle.logic_meaning.specs.Sizes.{nodes, all_nodes}
use Rattle.logic_meaning.specs.Fold.{append}
use Rattle.formula_tree.specs.Trees.{members}
use Rattle.nnf_trees.specs.Nnfs.{nnf_of, nnfs_of, AreProper}
use Rattle.nnf_trees.specs.Forms.{forms}
use Rattle.nnf_trees.proofs.negation.+negated.Given as goal

abbrev pub decreases-all_negated : goal.decreases-all_negated
decreases-all_negated l = 2 * all_nodes (nnfs_of l.fs.now) + 1

abbrev pub decreases-negated : goal.decreases-negated
decreases-negated l = 2 * nodes (nnf_of l.f.now)

-- the forms that are made and those of the members left are those of all
abbrev pub invariant-all_negated-loop-f : goal.invariant-all_negated-loop-f
invariant-all_negated-loop-f l = record {
  left : append (members (map nnf_of l.made.items)) (forms true (members (map nnf_of (drop l.f-index l.f-items)))) ≡ forms true (nnfs_of l.fs);
  small : all_nodes (members (map nnf_of (drop l.f-index l.f-items))) ≤ all_nodes (nnfs_of l.fs);
  made : AreProper l.made.items;
  rest : AreProper (drop l.f-index l.f-items);
}
