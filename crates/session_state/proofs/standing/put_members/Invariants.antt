use Rattle.std.proofs.Common.{◌≡◌, ◌++◌, [], length, map, drop}
use Rattle.logic_meaning.specs.Some.{EachOf}
use Rattle.formula_laws.specs.Within.{IsTreeWithin}
use Rattle.logic_meaning.specs.Text.{tree_text}
use Rattle.logic_meaning.specs.AnswerTexts.{separated}
use Rattle.session_state.specs.Trees.{standing_trees}
use Rattle.session_state.proofs.standing.put_members.Given as goal

-- what is written and what is left is the whole text
abbrev pub invariant-loop-assumption : goal.invariant-loop-assumption
invariant-loop-assumption l = record {
  left : l.out ++ separated l.before (map (tree_text l.names) (standing_trees (drop l.assumption-index l.members)))
      ≡ l.fn.out ++ separated [] (map (tree_text l.names) (standing_trees l.members));
  within : EachOf (IsTreeWithin (length l.names)) (standing_trees (drop l.assumption-index l.members));
}
