-- A formula as an argument.
use Rattle.std.specs.Prelude.{ℕ, List}
use Rattle.logic_meaning.specs.Tree.{Tree}
use Rattle.logic_meaning.specs.Text.{is_compound, in_parentheses, tree_text}

-- the text of a formula as a member or an argument
abbrev pub argument_text : List (List ℕ) → Tree → List ℕ
argument_text names f = in_parentheses (is_compound f) (tree_text names f)
