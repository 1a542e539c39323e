-- An overlay that begins over a store has the store's nodes, and so do those that are made from it.
use Rattle.std.proofs.Common.{◌≡◌, List, [], ◌++◌, subst, ◌∙◌}
use Rattle.std.proofs.lemmas.List.{append-nil}
use Rattle.formula_tree.specs.declared.shape.Shape.{Shape}
use Rattle.formula_tree.specs.Makers.{Keeps}
use Rattle.formula_store.specs.declared.id.FormulaId.{FormulaId}
use Rattle.formula_store.specs.Layers.{Layers, all}
use Rattle.formula_store.specs.Nodes.{tree, IsId, Front}

module _ (store : List (Shape FormulaId)) (first : Layers) (below : first.below ≡ store) (own : first.own ≡ []) where
  pub starts : all first ≡ store
  starts = (λ i. below i ++ own i) ∙ append-nil store

  pub kept_from : (later : List (Shape FormulaId)) → Keeps (IsId (all first)) (tree (all first)) (IsId later) (tree later) → Keeps (IsId store) (tree store) (IsId later) (tree later)
  kept_from later k = subst (λ (ns : List (Shape FormulaId)). Keeps (IsId ns) (tree ns) (IsId later) (tree later)) starts k

  pub front_from : (later : List (Shape FormulaId)) → Front (all first) later → Front store later
  front_from later k = subst (λ (ns : List (Shape FormulaId)). Front ns later) starts k
