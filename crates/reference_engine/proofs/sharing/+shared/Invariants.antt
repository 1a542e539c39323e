use Rattle.std.proofs.Common.{◌≡◌, ◌≤◌, ◌+◌, ◌*◌, map}
use Rattle.std.specs.List.{AllByRecursion}
use Rattle.logic_meaning.specs.Sizes.{nodes, all_nodes}
use Rattle.logic_meaning.specs.Fold.{append}
use Rattle.formula_tree.specs.Makers.{Keeps}
use Rattle.formula_tree.specs.Trees.{members}
use Rattle.formula_store.specs.Nodes.{IsId, tree}
use Rattle.nnf_trees.specs.Nnfs.{nnf_of, nnfs_of, AreProper}
use Rattle.reference_engine.proofs.sharing.+shared.Given as goal

abbrev pub decreases-share_all : goal.decreases-share_all
decreases-share_all l = 2 * all_nodes (nnfs_of l.fs) + 1

abbrev pub decreases-share : goal.decreases-share
decreases-share l = 2 * nodes (nnf_of l.f)

-- the formulas that are made and those of the members left are all
abbrev pub invariant-share_all-loop-f : goal.invariant-share_all-loop-f
invariant-share_all-loop-f l = record {
  can : (goal.iterator-share_all-loop-f).can_next l.f-iterator;
  finite : (goal.iterator-share_all-loop-f).is_finite l.f-iterator;
  are : AllByRecursion (IsId l.store) l.ids.items;
  left : append (members (map (tree l.store) l.ids.items)) (members (map nnf_of l.f-iterator.rest.items)) ≡ nnfs_of l.fn.fs;
  small : all_nodes (members (map nnf_of l.f-iterator.rest.items)) ≤ all_nodes (nnfs_of l.fn.fs);
  proper : AreProper l.f-iterator.rest.items;
  kept : Keeps (IsId l.initial.store) (tree l.initial.store) (IsId l.store) (tree l.store);
}
