use Rattle.std.proofs.Common.{◌≡◌, ◌+◌, ◌*◌, map, take}
use Rattle.logic_meaning.specs.Sizes.{nodes, all_nodes}
use Rattle.normal_atoms.specs.Atoms.{context_of}
use Rattle.formula_tree.specs.Makers.{Keeps}
use Rattle.formula_tree.specs.Trees.{members}
use Rattle.formula_store.specs.Nodes.{tree, IsId}
use Rattle.theory_simplifier.specs.Known.{known_atoms}
use Rattle.theory_simplifier.specs.Parts.{parts_of, IsListOf, HasIds}
use Rattle.theory_simplifier.proofs.Members.{through, with_next}
use Rattle.theory_simplifier.proofs.pass.+passed.Given as goal

abbrev pub decreases-passed : goal.decreases-passed
decreases-passed l = 4 * nodes (tree l.store.now l.id)

abbrev pub decreases-quantified_passed : goal.decreases-quantified_passed
decreases-quantified_passed l = 4 * nodes (tree l.store.now l.id) + 1

abbrev pub decreases-list_passed : goal.decreases-list_passed
decreases-list_passed l = 4 * all_nodes (members (map (tree l.store.now) l.ids.now)) + 3

abbrev pub decreases-others_passed : goal.decreases-others_passed
decreases-others_passed l = 4 * all_nodes (members (map (tree l.store.now) l.ids.now)) + 2

abbrev pub decreases-member_passed : goal.decreases-member_passed
decreases-member_passed l = 4 * nodes (tree l.store.now l.id) + 1

abbrev pub invariant-others_passed-loop-id : goal.invariant-others_passed-loop-id
invariant-others_passed-loop-id l = record {
  list : IsListOf (context_of l.context) l.junction l.parts;
  ids : HasIds l.store l.parts;
  known : l.known ≡ l.initial.known;
  kept : Keeps (IsId l.initial.store) (tree l.initial.store) (IsId l.store) (tree l.store);
  so_far : parts_of (tree l.store) l.parts ≡ through (with_next (context_of l.context) l.junction (known_atoms l.initial.known)) (map (tree l.initial.store) (take l.id-index l.ids)) (parts_of (tree l.initial.store) l.initial.parts);
}
