-- Copies of formulas in another store.
use Rattle.std.specs.Prelude.{ℕ, ◌-◌, nat_lt, if◌then◌else◌, List, get_or}
use Rattle.formula_tree.specs.declared.shape.Shape.{Shape}
use Rattle.formula_tree.specs.Makers.{IsMade}
use Rattle.formula_store.specs.declared.id.FormulaId.{FormulaId}
use Rattle.formula_store.specs.Nodes.{tree, IsId}

abbrev pub first_id : FormulaId
first_id = record { number = 0 }

-- the new id of an id: the first so many stay, and a list has those of the others, in order
abbrev pub ported : ℕ → List FormulaId → FormulaId → FormulaId
ported begun ids id = if nat_lt id.number begun then id else get_or ids (id.number - begun) first_id

-- the copy stands for the formula that the id stands for
abbrev pub Copied : List (Shape FormulaId) → List (Shape FormulaId) → FormulaId → FormulaId → Type 0
Copied nodes copies id copy = IsMade (IsId copies) (tree copies) copy (tree nodes id)
