use Rattle.std.proofs.Common.{◌≤◌, ◌+◌, ◌*◌, map, drop}
use Rattle.logic_meaning.specs.Sizes.{nodes, all_nodes}
use Rattle.normal_atoms.specs.Atoms.{context_of}
use Rattle.formula_tree.specs.Trees.{members}
use Rattle.nnf_trees.specs.Nnfs.{nnf_of, nnfs_of, AreProper}
use Rattle.prenex_forms.proofs.RenamedParts.{IsGoing}
use Rattle.prenex_forms.proofs.renaming.+renamed.Given as goal

abbrev pub decreases-all_renamed : goal.decreases-all_renamed
decreases-all_renamed l = 2 * all_nodes (nnfs_of l.fs.now) + 1

abbrev pub decreases-renamed : goal.decreases-renamed
decreases-renamed l = 2 * nodes (nnf_of l.f.now)

-- what is made and what is left is the whole
abbrev pub invariant-all_renamed-loop-f : goal.invariant-all_renamed-loop-f
invariant-all_renamed-loop-f l = record {
  going : IsGoing (context_of l.context) l.initial.chooser (nnfs_of l.fs) l.made.items l.chooser (members (map nnf_of (drop l.f-index l.f-items)));
  small : all_nodes (members (map nnf_of (drop l.f-index l.f-items))) ≤ all_nodes (nnfs_of l.fs);
  made : AreProper l.made.items;
  rest : AreProper (drop l.f-index l.f-items);
}
