use Rattle.std.proofs.Common.{◌≡◌, ◌++◌, map, drop}
use Rattle.std.specs.List.{AllByRecursion}
use Rattle.formula_tree.specs.Makers.{Keeps}
use Rattle.formula_store.specs.Nodes.{tree, IsId}
use Rattle.branch_pruning.specs.Cuts.{left_by}
use Rattle.branch_pruning.proofs.members.without_implied.Given as goal

abbrev pub invariant-loop-i : goal.invariant-loop-i
invariant-loop-i l = record {
  kept : Keeps (IsId l.fn.store) (tree l.fn.store) (IsId l.store) (tree l.store);
  are : AllByRecursion (IsId l.store) l.members.items;
  so_far : map (tree l.store) l.members.items ++ left_by (drop l.i l.marks) (map (tree l.fn.store) (drop l.i l.ids)) ≡ left_by l.marks (map (tree l.fn.store) l.ids);
}
