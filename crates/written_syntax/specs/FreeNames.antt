-- Free names of a written formula.
use Rattle.std.specs.Prelude.{ℕ, List}
use Rattle.logic_meaning.specs.Every.{Free}
use Rattle.language_meaning.specs.Trees.{FormulaTree}
use Rattle.language_meaning.specs.Value.{NamedPoint, Mentions}

-- no name stands for a formula
abbrev pub NothingNamed : List ℕ → NamedPoint → Type 0
NothingNamed x p = ⊥

-- the name is free in the formula
abbrev pub IsFree : FormulaTree → List ℕ → Type 0
IsFree f x = Free Mentions f x
