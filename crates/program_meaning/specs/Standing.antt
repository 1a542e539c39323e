-- The standing assumptions: how they grow, and their line.
use Rattle.std.specs.Prelude.{List, [], ◌∷◌, ◌++◌, ℕ, Bool, codes, map, nat_eq, if◌then◌else◌}
use Rattle.std.specs.List.{fold, list_any}
use Rattle.logic_meaning.specs.Formula.{No, One}
use Rattle.logic_meaning.specs.Same.{same_atom}
use Rattle.logic_meaning.specs.Sizes.{same_formula}
use Rattle.logic_meaning.specs.Tree.{Tree}
use Rattle.language_meaning.specs.Trees.{FormulaTrees}
use Rattle.logic_meaning.specs.Text.{tree_text}
use Rattle.logic_meaning.specs.AnswerTexts.{separated}
use Rattle.program_meaning.specs.State.{State}
use Rattle.program_meaning.specs.Assumptions.{resolved_all}

-- the formula stands among them
abbrev pub is_among : Tree → List Tree → Bool
is_among t ts = list_any (same_formula same_atom nat_eq t) ts

-- the formula behind the others, where it is not among them
abbrev pub behind : List Tree → Tree → List Tree
behind ts t = if is_among t ts then ts else ts ++ t ∷ []

-- An atom, or false, is put behind the standing assumptions. One that is true by itself says nothing, and no statement assumes anything else.
abbrev pub with_assumption : List Tree → Tree → List Tree
with_assumption ts No = behind ts No
with_assumption ts (One a) = behind ts (One a)
with_assumption ts t = ts

-- the standing assumptions with these behind them
abbrev pub grown : State → FormulaTrees → List Tree
grown s given = fold with_assumption s.standing (resolved_all s given)

-- the line of the standing assumptions
abbrev pub standing_text : List (List ℕ) → List Tree → List ℕ
standing_text names ts = codes "{" ++ separated [] (map (tree_text names) ts) ++ codes "}"
