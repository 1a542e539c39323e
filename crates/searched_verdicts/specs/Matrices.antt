-- The formula behind leading quantifiers.
use Rattle.std.specs.Prelude.{◌≡◌, ℕ, List}
use Rattle.logic_meaning.specs.Tree.{Tree}
use Rattle.formula_tree.specs.declared.shape.Shape.{Shape}
use Rattle.formula_store.specs.declared.id.FormulaId.{FormulaId}
use Rattle.formula_store.specs.Nodes.{tree, IsId}
use Rattle.sample_reference.specs.Leading.{under_names}

-- the id of what stands under the first so many names, where the formula begins with them
pub record IsMatrix (nodes : List (Shape FormulaId)) (id : FormulaId) (count : ℕ) (m : FormulaId) : Type 0 where
  pub is : IsId nodes m
  pub under : (body : Tree) → tree nodes id ≡ under_names 0 count body → tree nodes m ≡ body
