use Rattle.std.proofs.Common.{◌≡◌, ◌≤◌, ◌+◌, ◌*◌, ◌++◌, map}
use Rattle.logic_meaning.specs.Fold.{append}
use Rattle.logic_meaning.specs.Sizes.{nodes, all_nodes}
use Rattle.formula_tree.specs.Trees.{members}
use Rattle.nnf_trees.specs.Nnfs.{nnf_of, nnfs_of, AreProper}
use Rattle.logic_meaning.specs.Blocks.{matrices}
use Rattle.prenex_forms.specs.Places.{placed_in}
use Rattle.prenex_forms.proofs.front.+stripped.Given as goal

abbrev pub decreases-all_stripped : goal.decreases-all_stripped
decreases-all_stripped l = 2 * all_nodes (nnfs_of l.fs) + 1

abbrev pub decreases-stripped : goal.decreases-stripped
decreases-stripped l = 2 * nodes (nnf_of l.f)

-- what is made and what is left is the whole
abbrev pub invariant-all_stripped-loop-f : goal.invariant-all_stripped-loop-f
invariant-all_stripped-loop-f l = record {
  can : (goal.iterator-all_stripped-loop-f).can_next l.f-iterator;
  finite : (goal.iterator-all_stripped-loop-f).is_finite l.f-iterator;
  left : append (members (map nnf_of l.made.items)) (matrices (members (map nnf_of l.f-iterator.rest.items))) ≡ matrices (nnfs_of l.fn.fs);
  places : l.places.items ++ placed_in l.kind l.level (members (map nnf_of l.f-iterator.rest.items)) ≡ l.initial.places.items ++ placed_in l.kind l.level (nnfs_of l.fn.fs);
  small : all_nodes (members (map nnf_of l.f-iterator.rest.items)) ≤ all_nodes (nnfs_of l.fn.fs);
  made : AreProper l.made.items;
  rest : AreProper l.f-iterator.rest.items;
}
