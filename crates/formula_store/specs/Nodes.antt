-- The trees of a list of nodes, whose ids are the places of nodes before them.
use Rattle.std.specs.Prelude.{◌≡◌, ℕ, ◌<◌, List, [], ◌∷◌, ◌++◌, get_or, slice_get, Some, length, ◌⊎◌}
use Rattle.logic_meaning.specs.Formula.{Yes}
use Rattle.logic_meaning.specs.Tree.{Tree}
use Rattle.formula_tree.specs.declared.shape.Shape.{Shape}
use Rattle.formula_tree.specs.Shapes.{tree_over, AllIds, IsProperShape}
use Rattle.formula_store.specs.declared.id.FormulaId.{FormulaId}

-- the tree at the place that the id names
abbrev pub at : List Tree → FormulaId → Tree
at trees id = get_or trees id.number Yes

-- the trees of the nodes, after those of the nodes before them
unfoldable pub trees_from : List Tree → List (Shape FormulaId) → List Tree
trees_from before [] = before
trees_from before (n ∷ ns) = trees_from (before ++ tree_over (at before) n ∷ []) ns

-- the trees of the nodes, each over the trees of those before it
abbrev pub trees : List (Shape FormulaId) → List Tree
trees nodes = trees_from [] nodes

-- the tree of an id
abbrev pub tree : List (Shape FormulaId) → FormulaId → Tree
tree nodes id = at (trees nodes) id

-- nodes that stand for formulas, each once
pub record AreNodes (nodes : List (Shape FormulaId)) : Type 0 where
  pub below : (i : ℕ) (n : Shape FormulaId) → slice_get nodes i ≡ Some n → AllIds (λ id. id.number < i) n
  pub proper : (i : ℕ) (n : Shape FormulaId) → slice_get nodes i ≡ Some n → IsProperShape n
  pub once : (i j : ℕ) (n : Shape FormulaId) → slice_get nodes i ≡ Some n → slice_get nodes j ≡ Some n → i ≡ j

-- the id names one of such nodes
pub record IsId (nodes : List (Shape FormulaId)) (id : FormulaId) : Type 0 where
  pub below : id.number < length nodes
  pub are : AreNodes nodes

-- each node stays in its place
pub record Front (old new : List (Shape FormulaId)) : Type 0 where
  pub stays : (i : ℕ) (n : Shape FormulaId) → slice_get old i ≡ Some n → slice_get new i ≡ Some n

-- the node is the id's: it was there, or it is added at the end
abbrev pub Makes : List (Shape FormulaId) → Shape FormulaId → FormulaId → List (Shape FormulaId) → Type 0
Makes old node id new = ((slice_get old id.number ≡ Some node) × (new ≡ old)) ⊎ ((id.number ≡ length old) × (new ≡ old ++ node ∷ []))
