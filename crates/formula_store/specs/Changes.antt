-- What was made beside a store, and what it stands for over any store with as many nodes.
use Rattle.std.specs.Prelude.{◌≡◌, ℕ, ◌+◌, ◌<◌, List, ◌++◌, Some, slice_get, length, take}
use Rattle.logic_meaning.specs.Tree.{Tree}
use Rattle.formula_tree.specs.declared.shape.Shape.{Shape}
use Rattle.formula_tree.specs.Shapes.{AllIds, IsProperShape}
use Rattle.formula_store.specs.declared.id.FormulaId.{FormulaId}
use Rattle.formula_store.specs.Nodes.{tree}

-- new nodes, the id of the one that is wanted, and the number of the nodes over which they were made
pub record Change : Type 0 where
  pub own : List (Shape FormulaId)
  pub root : FormulaId
  pub begun : ℕ

-- the first so many of these nodes, and after them the new ones
abbrev pub over : List (Shape FormulaId) → Change → List (Shape FormulaId)
over nodes d = take d.begun nodes ++ d.own

-- the tree that is wanted, over these nodes
abbrev pub tree_on : List (Shape FormulaId) → Change → Tree
tree_on nodes d = tree (over nodes d) d.root

-- the ids of each new node are those of nodes before it, and the one that is wanted is there
pub record IsChange (d : Change) : Type 0 where
  pub below : (i : ℕ) (n : Shape FormulaId) → slice_get d.own i ≡ Some n → AllIds (λ id. id.number < d.begun + i) n
  pub proper : (i : ℕ) (n : Shape FormulaId) → slice_get d.own i ≡ Some n → IsProperShape n
  pub wanted : d.root.number < d.begun + length d.own

-- nodes are added at the end alone
pub record Grows (old new : List (Shape FormulaId)) : Type 0 where
  pub more : List (Shape FormulaId)
  pub is : new ≡ old ++ more
