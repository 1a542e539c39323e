-- Formulas of a store into which a test point of the ordered fields can be put.
use Rattle.std.specs.Prelude.{List}
use Rattle.logic_meaning.specs.Context.{Fields}
use Rattle.logic_meaning.specs.Plain.{IsPlain}
use Rattle.formula_laws.specs.Equivalence.{InContext}
use Rattle.formula_tree.specs.declared.shape.Shape.{Shape}
use Rattle.formula_store.specs.declared.id.FormulaId.{FormulaId}
use Rattle.formula_store.specs.Nodes.{tree, IsId}

-- the formula is built by and and or from atoms of the ordered fields
pub record Takes (nodes : List (Shape FormulaId)) (id : FormulaId) : Type 0 where
  pub is : IsId nodes id
  pub plain : IsPlain (tree nodes id)
  pub in_fields : InContext Fields (tree nodes id)

-- each such formula is one still
abbrev pub StillTakes : List (Shape FormulaId) → List (Shape FormulaId) → Type 0
StillTakes old new = (id : FormulaId) → Takes old id → Takes new id
