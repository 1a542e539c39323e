-- How long the text of a formula is at least.
use Rattle.std.specs.Prelude.{ℕ, ◌*◌, ◌≤◌, List, length}
use Rattle.logic_meaning.specs.Members.{HasTwoMembers}
use Rattle.logic_meaning.specs.Sizes.{nodes}
use Rattle.logic_meaning.specs.Tree.{Tree}
use Rattle.logic_meaning.specs.Text.{tree_text}

-- a formula of n nodes whose conjunctions and disjunctions have two members at least has a text of 4 * n bytes at least
abbrev pub NodesBoundText : Type 0
NodesBoundText = (names : List (List ℕ)) (f : Tree) → HasTwoMembers f → 4 * nodes f ≤ length (tree_text names f)
