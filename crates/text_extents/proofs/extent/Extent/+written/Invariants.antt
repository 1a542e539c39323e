use Rattle.std.proofs.Common.{◌≡◌, ◌+◌, ◌*◌, map, take}
use Rattle.logic_meaning.specs.Sizes.{nodes, all_nodes}
use Rattle.formula_tree.specs.Trees.{members}
use Rattle.formula_store.specs.Nodes.{tree}
use Rattle.text_extents.specs.Extents.{AddsMembers}
use Rattle.text_extents.proofs.Listed.{before_of}
use Rattle.text_extents.proofs.extent.Extent.+written.Given as goal

abbrev pub decreases-formula : goal.decreases-formula
decreases-formula l = 2 * nodes (tree l.store.now l.id)

abbrev pub decreases-members : goal.decreases-members
decreases-members l = 2 * all_nodes (members (map (tree l.store.now) l.ids.now)) + 1

-- the members so far are added
abbrev pub invariant-members-loop-id : goal.invariant-members-loop-id
invariant-members-loop-id l = record {
  before : l.before ≡ before_of l.junction l.id-index;
  adds : AddsMembers l.fn.self l.self l.junction (members (map (tree l.store) (take l.id-index l.ids)));
}
