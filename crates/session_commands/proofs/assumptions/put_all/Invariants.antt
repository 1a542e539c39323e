use Rattle.std.proofs.Common.{◌≡◌, map, take, drop}
use Rattle.std.specs.List.{AllByRecursion, fold}
use Rattle.formula_store.specs.Nodes.{tree, IsId}
use Rattle.program_meaning.specs.Standing.{with_assumption}
use Rattle.session_state.specs.Trees.{standing_trees, IsFront}
use Rattle.session_commands.proofs.assumptions.put_all.Given as goal

-- the formulas so far stand behind the others
abbrev pub invariant-loop-id : goal.invariant-loop-id
invariant-loop-id l = record {
  grown : standing_trees l.standing ≡ fold with_assumption (standing_trees l.fn.standing) (map (tree l.store) (take l.id-index l.ids));
  front : IsFront l.fn.standing l.standing;
  made : AllByRecursion (IsId l.store) (drop l.id-index l.ids);
}
