-- Formulas of a store, while more are made.
use Rattle.std.proofs.Common.{◌≡◌, List, map}
use Rattle.std.specs.List.{AllByRecursion}
use Rattle.formula_tree.specs.declared.shape.Shape.{Shape}
use Rattle.formula_tree.specs.Makers.{Keeps}
use Rattle.formula_tree.specs.Trees.{members}
use Rattle.formula_tree.proofs.Shapes.{all_map, same_members}
use Rattle.formula_store.specs.declared.id.FormulaId.{FormulaId}
use Rattle.formula_store.specs.Nodes.{tree, IsId}

-- a has become b
module _ (a b : List (Shape FormulaId)) (k : Keeps (IsId a) (tree a) (IsId b) (tree b)) (ids : List FormulaId) (h : AllByRecursion (IsId a) ids) where
  pub still_ids : AllByRecursion (IsId b) ids
  still_ids = all_map (IsId a) (IsId b) k.is ids h

  pub still_trees : members (map (tree b) ids) ≡ members (map (tree a) ids)
  still_trees = same_members (tree b) (tree a) ids (all_map (IsId a) (λ id. tree b id ≡ tree a id) k.same ids h)
