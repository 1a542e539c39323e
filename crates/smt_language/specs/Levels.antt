-- The names that stand for the names of a script: a name is numbered by how many names are around it, so that no two names that
-- are around one place are the same.
use Rattle.std.specs.Prelude.{ℕ, zero, suc, List, [], ◌∷◌}
use Rattle.logic_meaning.specs.declared.quantifier.Quantifier.{Quantifier}
use Rattle.logic_meaning.specs.Shape.{quantified}
use Rattle.language_meaning.specs.Trees.{FormulaTree}

-- the name of a level: the level as the one number of its list
abbrev pub level : ℕ → List ℕ
level n = n ∷ []

-- the names of so many levels, from one on
abbrev pub levels_from : ℕ → ℕ → List (List ℕ)
levels_from n zero = []
levels_from n (suc count) = level n ∷ levels_from (suc n) count

-- the names of the first levels
abbrev pub levels : ℕ → List (List ℕ)
levels count = levels_from 0 count

-- the formula under a quantifier for each of the names, which have the levels from n on
abbrev pub closed : {X : Type 0} → Quantifier → ℕ → List X → FormulaTree → FormulaTree
closed q n [] f = f
closed q n (x ∷ xs) f = quantified q (level n) (closed q (suc n) xs f)
