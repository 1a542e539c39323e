use Rattle.std.proofs.Common.{◌≡◌, map, drop}
use Rattle.logic_meaning.specs.Fold.{append}
use Rattle.test_points.specs.FromEliminationTheory.{trees_left}
use Rattle.logic_meaning.specs.Steps.{results}
use Rattle.logic_meaning.specs.Limits.{each}
use Rattle.normal_atoms.specs.Atoms.{context_of}
use Rattle.logic_meaning.specs.NormalForm.{normal_atom}
use Rattle.formula_tree.specs.Trees.{members}
use Rattle.nnf_trees.specs.Nnfs.{nnf_of, AreProper}
use Rattle.test_points.specs.Points.{place_of}
use Rattle.nnf_trees.specs.Placed.{point_within}
use Rattle.nnf_trees.proofs.results.formulas_at.Given as goal

-- what is left and what is left at the other points is what is left at all, and within the limit are all where the others are
abbrev pub invariant-loop-point : goal.invariant-loop-point
invariant-loop-point l = record {
  formulas : append (members (map nnf_of l.left.items)) (trees_left (results (context_of l.context) (normal_atom (context_of l.context)) l.fn.x.number (nnf_of l.f) (map place_of (drop l.point-index l.points))))
      ≡ trees_left (results (context_of l.context) (normal_atom (context_of l.context)) l.fn.x.number (nnf_of l.f) (map place_of l.points));
  within : each (point_within (context_of l.context) l.fn.x.number (nnf_of l.f)) (map place_of (drop l.point-index l.points)) ≡ each (point_within (context_of l.context) l.fn.x.number (nnf_of l.f)) (map place_of l.points);
  proper : AreProper l.left.items;
}
