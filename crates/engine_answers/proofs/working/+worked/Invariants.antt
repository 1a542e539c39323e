use Rattle.std.proofs.Common.{◌≡◌, ◌+◌, ◌*◌, map, take}
use Rattle.logic_meaning.specs.Shape.{IsQuantifierFree}
use Rattle.formula_tree.specs.Makers.{Keeps}
use Rattle.formula_store.specs.Nodes.{tree, IsId}
use Rattle.engine_answers.specs.Without.{Remembers}
use Rattle.engine_answers.proofs.Members.{AllWithout}
use Rattle.engine_answers.proofs.working.+worked.Given as goal

abbrev pub decreases-remembered : goal.decreases-remembered
decreases-remembered g l = 3 * l.id.number + 2

abbrev pub decreases-made : goal.decreases-made
decreases-made g l = 3 * l.id.number + 1

abbrev pub decreases-list_made : goal.decreases-list_made
decreases-list_made g l = 3 * l.id.number

abbrev pub decreases-chain_made : goal.decreases-chain_made
decreases-chain_made g l = 3 * l.id.number

-- the members so far are worked on to the parts
abbrev pub invariant-list_made-loop-member : goal.invariant-list_made-loop-member
invariant-list_made-loop-member g l = record {
  kept : Keeps (IsId l.fn.store) (tree l.fn.store) (IsId l.store) (tree l.store);
  done : Remembers l.work l.store l.done;
  unpaid : IsQuantifierFree (tree l.fn.store l.fn.id) → l.budget ≡ l.fn.budget;
  parts : AllWithout l.work l.store (map (tree l.fn.store) (take l.member-index l.member-items)) l.parts.items;
}
