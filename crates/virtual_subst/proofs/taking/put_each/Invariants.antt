use Rattle.std.proofs.Common.{map, take}
use Rattle.normal_atoms.specs.Atoms.{context_of}
use Rattle.formula_tree.specs.Makers.{AreMade, Keeps}
use Rattle.formula_store.specs.Nodes.{tree, IsId, Front}
use Rattle.nnf_trees.specs.Placed.{put}
use Rattle.test_points.specs.Points.{place_of}
use Rattle.virtual_subst.proofs.taking.put_each.Given as goal

-- what is made at the points so far, in a store that has only grown
abbrev pub invariant-loop-point : goal.invariant-loop-point
invariant-loop-point l = record {
  kept : Keeps (IsId l.initial.store) (tree l.initial.store) (IsId l.store) (tree l.store);
  front : Front l.initial.store l.store;
  made : AreMade (IsId l.store) (tree l.store) l.made.items (map (λ t. put (context_of l.context) t.name.number (place_of t) (tree l.initial.store l.branch)) (take l.point-index l.points));
}
