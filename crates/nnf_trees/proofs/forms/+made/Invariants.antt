use Rattle.std.proofs.Common.{◌≡◌, ◌≤◌, ◌+◌, ◌*◌, map, drop}
use Rattle.logic_meaning.specs.Sizes.{nodes, all_nodes}
use Rattle.logic_meaning.specs.Every.{EveryOf}
use Rattle.logic_meaning.specs.Fold.{append}
use Rattle.formula_tree.specs.Trees.{members, tree_of, trees_of}
use Rattle.nnf_trees.specs.Nnfs.{nnf_of, AreProper, HasModulus}
use Rattle.nnf_trees.specs.Forms.{forms}
use Rattle.nnf_trees.proofs.forms.+made.Given as goal

abbrev pub decreases-normal_forms : goal.decreases-normal_forms
decreases-normal_forms l = 2 * all_nodes (trees_of l.fs.now) + 1

abbrev pub decreases-normal_form : goal.decreases-normal_form
decreases-normal_form l = 2 * nodes (tree_of l.f.now)

-- the forms that are made and those of the members left are those of all
abbrev pub invariant-normal_forms-loop-f : goal.invariant-normal_forms-loop-f
invariant-normal_forms-loop-f l = record {
  left : append (members (map nnf_of l.made.items)) (forms l.negated (members (map tree_of (drop l.f-index l.f-items)))) ≡ forms l.negated (trees_of l.fs);
  small : all_nodes (members (map tree_of (drop l.f-index l.f-items))) ≤ all_nodes (trees_of l.fs);
  made : AreProper l.made.items;
  rest : EveryOf HasModulus (members (map tree_of (drop l.f-index l.f-items)));
}
