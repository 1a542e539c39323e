-- The text of a formula in parts: the quantifiers that it begins with, what stands behind them, and the brackets that close them.
use Rattle.std.specs.Prelude.{◌≡◌, ℕ, ◌<◌, List, ◌++◌, length, codes, replicate}
use Rattle.logic_meaning.specs.Tree.{Tree}
use Rattle.logic_meaning.specs.Members.{HasTwoMembers}
use Rattle.logic_meaning.specs.Text.{name_at, tree_text}
use Rattle.formula_laws.specs.Within.{IsTreeWithin}

-- so many closing brackets
abbrev pub brackets : ℕ → List ℕ
brackets n = replicate n 41

-- the formula begins with a quantifier, which is written with this word and has this name, and u stands behind it
pub record Begins (t : Tree) (word : List ℕ) (x : ℕ) (u : Tree) : Type 0 where
  pub text : (names : List (List ℕ)) → tree_text names t ≡ word ++ name_at names x ++ codes "," ++ tree_text names u ++ codes ")"
  pub named : (n : ℕ) → IsTreeWithin n t → x < n
  pub within : (n : ℕ) → IsTreeWithin n t → IsTreeWithin n u
  pub members : HasTwoMembers t → HasTwoMembers u

-- behind what was written before, t is written up to u, which stands in so many brackets
pub record IsOpened (names : List (List ℕ)) (before : List ℕ) (t : Tree) (after : List ℕ) (u : Tree) (count : ℕ) : Type 0 where
  pub text : after ++ (tree_text names u ++ brackets count) ≡ before ++ tree_text names t
  pub within : IsTreeWithin (length names) u
  pub members : HasTwoMembers u
