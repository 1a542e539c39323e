use Rattle.std.proofs.Common.{◌≡◌, ◌+◌, ◌*◌, false, map, take}
use Rattle.logic_meaning.specs.Context.{Context}
use Rattle.logic_meaning.specs.Sizes.{nodes, all_nodes}
use Rattle.shape_theory.specs.AtomKit.{atom_kit}
use Rattle.shape_theory.specs.Pass.{is_free_in_some}
use Rattle.formula_tree.specs.Trees.{members}
use Rattle.formula_store.specs.Nodes.{tree}
use Rattle.theory_simplifier.proofs.free.+free.Given as goal

abbrev pub decreases-is_free : goal.decreases-is_free
decreases-is_free l = 2 * nodes (tree l.store.now l.id)

abbrev pub decreases-is_free_in_some : goal.decreases-is_free_in_some
decreases-is_free_in_some l = 2 * all_nodes (members (map (tree l.store.now) l.ids.now)) + 1

abbrev pub invariant-is_free_in_some-loop-id : goal.invariant-is_free_in_some-loop-id
invariant-is_free_in_some-loop-id l = (c : Context) → is_free_in_some (atom_kit c) l.x.number (members (map (tree l.store) (take l.id-index l.ids))) ≡ false
