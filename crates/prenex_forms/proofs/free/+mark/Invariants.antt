use Rattle.std.proofs.Common.{◌≡◌, ◌≤◌, ◌+◌, ◌*◌, Bool, List, length, map, drop}
use Rattle.logic_meaning.specs.Atom.{Mentions}
use Rattle.logic_meaning.specs.Every.{FreeInSome}
use Rattle.logic_meaning.specs.Sizes.{nodes, all_nodes}
use Rattle.formula_tree.specs.Trees.{members}
use Rattle.nnf_trees.specs.Nnfs.{nnf_of, nnfs_of}
use Rattle.prenex_forms.specs.Marks.{Marks}
use Rattle.prenex_forms.proofs.free.+mark.Given as goal

abbrev pub decreases-mark_free_in : goal.decreases-mark_free_in
decreases-mark_free_in l = 2 * all_nodes (nnfs_of l.members.now) + 1

abbrev pub decreases-mark_free : goal.decreases-mark_free
decreases-mark_free l = 2 * nodes (nnf_of l.f.now)

-- what marks the names of the members left marks those of all
abbrev pub invariant-mark_free_in-loop-member : goal.invariant-mark_free_in-loop-member
invariant-mark_free_in-loop-member l = record {
  hidden : l.hidden ≡ l.initial.hidden;
  same : length l.marks ≡ length l.initial.marks;
  goes : (b : List Bool) → Marks l.hidden l.marks (FreeInSome Mentions (members (map nnf_of (drop l.member-index l.member-items)))) b → Marks l.hidden l.initial.marks (FreeInSome Mentions (nnfs_of l.members)) b;
  small : all_nodes (members (map nnf_of (drop l.member-index l.member-items))) ≤ all_nodes (nnfs_of l.members);
}
