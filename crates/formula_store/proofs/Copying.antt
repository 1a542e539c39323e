-- Copying a formula over the copies of its members.
use Rattle.std.proofs.Common.{◌≡◌, inl, inr, List, [], ◌∷◌, map, get_or, refl, sym, ap, ◌∙◌, subst}
use Rattle.std.specs.List.{AllByRecursion}
use Rattle.logic_meaning.specs.Some.{Among}
use Rattle.formula_tree.specs.declared.shape.Shape.{Shape}
use Rattle.formula_tree.specs.Makers.{AreMade, Keeps}
use Rattle.formula_tree.specs.Shapes.{tree_over, AllIds}
use Rattle.formula_tree.proofs.Shapes.{over_same, all_ids_map}
use Rattle.formula_store.specs.declared.id.FormulaId.{FormulaId}
use Rattle.formula_store.specs.Nodes.{tree, IsId}
use Rattle.formula_store.specs.Order.{Within, WithinSome, itself, IsOrder}
use Rattle.formula_store.specs.Copies.{first_id, ported, Copied}
use Rattle.formula_store.proofs.Before.{among_all}
use Rattle.formula_store.proofs.Ported.{ported_all}

module _ (nodes old new : List (Shape FormulaId)) where
  -- copies stay copies
  pub still_copied : Keeps (IsId old) (tree old) (IsId new) (tree new) → (id copy : FormulaId) → Copied nodes old id copy → Copied nodes new id copy
  still_copied k id copy c = record { is = k.is copy c.is; same = k.same copy c.is ∙ c.same }

module _ (nodes : List (Shape FormulaId)) (table : List FormulaId) (old : List (Shape FormulaId)) (n : Shape FormulaId)
    (h : AllIds (λ m. Copied nodes old m (get_or table m.number first_id)) n) where
  pub copies_are : AllIds (λ m. IsId old (ported 0 table m)) n
  copies_are = all_ids_map (λ m. Copied nodes old m (get_or table m.number first_id)) (λ m. IsId old (ported 0 table m)) (λ m c. subst (IsId old) (sym (ported_all table m)) c.is) n h

  -- the tree over the copies is the tree over the members
  pub copies_same : tree_over (λ m. tree old (ported 0 table m)) n ≡ tree_over (tree nodes) n
  copies_same =
      over_same (λ m. tree old (ported 0 table m)) (tree nodes) n
      (all_ids_map (λ m. Copied nodes old m (get_or table m.number first_id)) (λ m. tree old (ported 0 table m) ≡ tree nodes m) (λ m c. ap (tree old) (ported_all table m) ∙ c.same) n h)

-- the copies of the formulas, looked up in a table that has one for each node
module _ (nodes copies : List (Shape FormulaId)) (table : List FormulaId) where
  pub roots_copied : (roots : List FormulaId) → AllByRecursion (λ (r : FormulaId). Copied nodes copies r (get_or table r.number first_id)) roots
      → AreMade (IsId copies) (tree copies) (map (ported 0 table) roots) (map (tree nodes) roots)
  roots_copied [] h = record { are = tt; same = refl }
  roots_copied (r ∷ roots) h =
      let k = roots_copied roots h.1 in
      let c = subst (Copied nodes copies r) (sym (ported_all table r)) h.0 in
      record { are = (c.is, k.are); same = λ i. c.same i ∷ k.same i }

  -- each formula is in the list of the nodes of all
  pub all_roots : (all ids roots : List FormulaId) → ((r : FormulaId) → Among roots r → Among all r) → IsOrder nodes all ids → (P : FormulaId → Type 0) → AllByRecursion P ids → AllByRecursion P roots
  all_roots all ids [] t o P h = tt
  all_roots all ids (r ∷ roots) t o P h = (among_all P ids r h (o.all r (own all r (t r (inl refl)))), all_roots all ids roots (λ s m. t s (inr m)) o P h)
    where
      own : (rs : List FormulaId) (x : FormulaId) → Among rs x → WithinSome nodes rs x
      own [] x m = absurd m
      own (y ∷ rs) x (inl e) = inl (subst (λ z. Within nodes z x) (sym e) itself)
      own (y ∷ rs) x (inr m) = inr (own rs x m)
