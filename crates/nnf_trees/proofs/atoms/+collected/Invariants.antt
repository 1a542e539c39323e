use Rattle.std.proofs.Common.{◌≡◌, ◌≤◌, ◌+◌, ◌*◌, ◌++◌, All, map, drop}
use Rattle.logic_meaning.specs.Sizes.{nodes, all_nodes}
use Rattle.logic_meaning.specs.Atoms.{atoms_in_all}
use Rattle.normal_atoms.specs.Atoms.{atom_of, IsWellFormed}
use Rattle.formula_tree.specs.Trees.{members}
use Rattle.nnf_trees.specs.Nnfs.{nnf_of, nnfs_of, AreProper}
use Rattle.nnf_trees.proofs.atoms.+collected.Given as goal

abbrev pub decreases-collect_all : goal.decreases-collect_all
decreases-collect_all l = 2 * all_nodes (nnfs_of l.fs.now) + 1

abbrev pub decreases-collect : goal.decreases-collect
decreases-collect l = 2 * nodes (nnf_of l.f.now)

-- the atoms that are listed and those of the members left are those of all
abbrev pub invariant-collect_all-loop-f : goal.invariant-collect_all-loop-f
invariant-collect_all-loop-f l = record {
  left : map atom_of l.atoms.items ++ atoms_in_all (members (map nnf_of (drop l.f-index l.f-items))) ≡ map atom_of l.initial.atoms.items ++ atoms_in_all (nnfs_of l.fs);
  small : all_nodes (members (map nnf_of (drop l.f-index l.f-items))) ≤ all_nodes (nnfs_of l.fs);
  rest : AreProper (drop l.f-index l.f-items);
  well_formed : All IsWellFormed l.atoms.items;
}
