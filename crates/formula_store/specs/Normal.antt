-- Formulas in which nothing has to be replaced.
use Rattle.std.specs.Prelude.{◌≡◌, Bool, true, false, List, Some, slice_get}
use Rattle.formula_tree.specs.declared.shape.Shape.{Shape}
use Rattle.formula_tree.specs.declared.shape.Shape.TheVariants as shape
use Rattle.formula_store.specs.declared.id.FormulaId.{FormulaId}

-- a formula of this shape begins as one in negation normal form does
abbrev pub is_normal_shape : Shape FormulaId → Bool
is_normal_shape (shape.Not f) = false
is_normal_shape (shape.Impl f g) = false
is_normal_shape (shape.Repl f g) = false
is_normal_shape (shape.Equiv f g) = false
is_normal_shape n = true

-- the formula with this id begins so
abbrev pub BeginsNormal : List (Shape FormulaId) → FormulaId → Type 0
BeginsNormal nodes id = (n : Shape FormulaId) → slice_get nodes id.number ≡ Some n → is_normal_shape n ≡ true
