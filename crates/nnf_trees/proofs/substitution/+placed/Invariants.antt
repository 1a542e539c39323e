use Rattle.std.proofs.Common.{◌≡◌, ◌≤◌, ◌+◌, ◌*◌, map, drop}
use Rattle.formula_laws.specs.TheoryAtoms.{AtomIn}
use Rattle.logic_meaning.specs.Every.{EveryOf}
use Rattle.logic_meaning.specs.Fold.{append}
use Rattle.logic_meaning.specs.Sizes.{nodes, all_nodes}
use Rattle.normal_atoms.specs.Atoms.{context_of}
use Rattle.formula_tree.specs.Trees.{members}
use Rattle.nnf_trees.specs.Nnfs.{nnf_of, nnfs_of, AreProper}
use Rattle.test_points.specs.Points.{place_of}
use Rattle.nnf_trees.specs.Placed.{put_all, each_within}
use Rattle.nnf_trees.proofs.substitution.+placed.Given as goal

abbrev pub decreases-all_substituted : goal.decreases-all_substituted
decreases-all_substituted l = 2 * all_nodes (nnfs_of l.fs.now) + 1

abbrev pub decreases-substituted : goal.decreases-substituted
decreases-substituted l = 2 * nodes (nnf_of l.f.now)

-- what is made and what the members left become are what all become, and within the limit are all where those left are
abbrev pub invariant-all_substituted-loop-f : goal.invariant-all_substituted-loop-f
invariant-all_substituted-loop-f l = record {
  left : append (members (map nnf_of l.made.items)) (put_all (context_of l.context) l.point.name.number (place_of l.point) (members (map nnf_of (drop l.f-index l.f-items))))
      ≡ put_all (context_of l.context) l.point.name.number (place_of l.point) (nnfs_of l.fs);
  within : each_within (context_of l.context) l.point.name.number (place_of l.point) (members (map nnf_of (drop l.f-index l.f-items)))
      ≡ each_within (context_of l.context) l.point.name.number (place_of l.point) (nnfs_of l.fs);
  small : all_nodes (members (map nnf_of (drop l.f-index l.f-items))) ≤ all_nodes (nnfs_of l.fs);
  made : AreProper l.made.items;
  rest : AreProper (drop l.f-index l.f-items);
  in_context : EveryOf (AtomIn (context_of l.context)) (members (map nnf_of (drop l.f-index l.f-items)));
}
