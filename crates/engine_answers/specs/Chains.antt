-- A chain of one quantifier and the formula behind it.
use Rattle.std.specs.Prelude.{◌≡◌, ◌<◌, ℕ, List, [], map, nat_eq}
use Rattle.logic_meaning.specs.declared.quantifier.Quantifier.{Quantifier}
use Rattle.logic_meaning.specs.Shape.{block_of, matrix_of, quantified}
use Rattle.logic_meaning.specs.Tree.{Tree}
use Rattle.logic_meaning.specs.declared.form.VarId.{VarId}
use Rattle.formula_tree.specs.declared.shape.Shape.{Shape}
use Rattle.formula_store.specs.declared.id.FormulaId.{FormulaId}
use Rattle.formula_store.specs.Nodes.{tree, IsId}

-- no chain of the quantifier goes on with the formula
pub record Ends (q : Quantifier) (f : Tree) : Type 0 where
  pub names : (chain : List ℕ) → block_of nat_eq f q chain ≡ []
  pub matrix : (chain : List ℕ) → matrix_of nat_eq f q chain ≡ f

-- the formula of the id is the inner one under the quantifier of the name
pub record IsUnder (nodes : List (Shape FormulaId)) (q : Quantifier) (id : FormulaId) (name : VarId) (inner : FormulaId) : Type 0 where
  pub is : IsId nodes inner
  pub below : inner.number < id.number
  pub same : tree nodes id ≡ quantified q name.number (tree nodes inner)

-- the names of the chain with which f begins, and the formula behind them
pub record IsSplit (nodes : List (Shape FormulaId)) (q : Quantifier) (f : Tree) (names : List VarId) (inner : FormulaId) : Type 0 where
  pub chain : map (λ (x : VarId). x.number) names ≡ block_of nat_eq f q []
  pub is : IsId nodes inner
  pub matrix : tree nodes inner ≡ matrix_of nat_eq f q []
