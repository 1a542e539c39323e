use Rattle.std.proofs.Common.{◌≡◌, ◌+◌, ◌*◌, map, take}
use Rattle.formula_tree.specs.Trees.{tree_of}
use Rattle.formula_store.specs.Nodes.{tree}
use Rattle.formula_store.proofs.unfold.+unfold.Given as goal

abbrev pub decreases-unfolded : goal.decreases-unfolded
decreases-unfolded l = 2 * l.id.number + 1

abbrev pub decreases-all_unfolded : goal.decreases-all_unfolded
decreases-all_unfolded l = 2 * l.above.number

abbrev pub invariant-all_unfolded-loop-id : goal.invariant-all_unfolded-loop-id
invariant-all_unfolded-loop-id l = map tree_of l.trees.items ≡ map (tree l.store) (take l.id-index l.ids)
