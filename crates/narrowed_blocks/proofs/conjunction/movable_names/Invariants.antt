use Rattle.std.proofs.Common.{map, take}
use Rattle.logic_meaning.specs.Some.{EachOf}
use Rattle.formula_store.specs.Nodes.{tree}
use Rattle.narrowed_blocks.proofs.Lasts.{Movable}
use Rattle.narrowed_blocks.proofs.conjunction.movable_names.Given as goal

-- the names stand in none of the formulas so far
abbrev pub invariant-loop-id : goal.invariant-loop-id
invariant-loop-id l = EachOf (Movable l.names (map (tree l.store) (take l.id-index l.others))) l.movable.items
