-- Nodes of a store, and new ones made beside it.
use Rattle.std.specs.Prelude.{List, ◌++◌}
use Rattle.formula_tree.specs.declared.shape.Shape.{Shape}
use Rattle.formula_store.specs.declared.id.FormulaId.{FormulaId}

pub record Layers : Type 0 where
  pub below : List (Shape FormulaId)
  pub own : List (Shape FormulaId)

-- the nodes of the store, and after them the new ones
abbrev pub all : Layers → List (Shape FormulaId)
all l = l.below ++ l.own
