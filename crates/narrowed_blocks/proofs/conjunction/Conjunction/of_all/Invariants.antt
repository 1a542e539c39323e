use Rattle.std.proofs.Common.{map, take}
use Rattle.formula_store.specs.Nodes.{tree}
use Rattle.narrowed_blocks.specs.Conjunctions.{AreMembersOf}
use Rattle.narrowed_blocks.proofs.conjunction.Conjunction.of_all.Given as goal

-- the members so far
abbrev pub invariant-loop-id : goal.invariant-loop-id
invariant-loop-id l = AreMembersOf (map (tree l.store) (take l.id-index l.ids)) l.store l.conjunction
