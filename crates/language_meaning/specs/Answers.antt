-- Answers of the commands inside a formula, beside what is bound.
use Rattle.std.specs.Prelude.{ℕ, suc, List, [], ◌∷◌, ◌++◌}
use Rattle.logic_meaning.specs.Tree.{Tree}
use Rattle.language_meaning.specs.Holes.{inner_name}
use Rattle.language_meaning.specs.Resolving.{BoundTrees}

-- the answers, by the names of the numbers from one on
abbrev pub answers_from : ℕ → List Tree → BoundTrees
answers_from k [] = []
answers_from k (t ∷ ts) = (inner_name k, t) ∷ answers_from (suc k) ts

-- what names stand for: the answers by their names, and what is bound
abbrev pub with_inner : List Tree → BoundTrees → BoundTrees
with_inner ts bound = answers_from 0 ts ++ bound
