-- A formula with quantifiers before it.
use Rattle.std.specs.Prelude.{ℕ, List, [], ◌∷◌}
use Rattle.logic_meaning.specs.Shape.{quantified}
use Rattle.logic_meaning.specs.declared.quantifier.Quantifier.{Quantifier}
use Rattle.language_meaning.specs.Trees.{FormulaTree}

-- a quantifier for each name, the first one outermost
abbrev pub quantified_names : Quantifier → List (List ℕ) → FormulaTree → FormulaTree
quantified_names quantifier [] f = f
quantified_names quantifier (x ∷ xs) f = quantified quantifier x (quantified_names quantifier xs f)
