-- What a new node changes: nothing of the old ones.
use Rattle.std.proofs.Common.{◌≡◌, ℕ, zero, suc, ◌<◌, List, [], ◌∷◌, ◌++◌, Some, slice_get, get_or, length, ◌⊎◌, inl, inr, ⊎_elim, refl, ap, sym, ◌∙◌, subst, arith, length-append}
use Rattle.std.proofs.lemmas.List.{append-nil}
use Rattle.std.proofs.lemmas.Option.{slice_get_within}
use Rattle.std.proofs.Math.Seq.{get_or-append_seam}
use Rattle.logic_meaning.specs.Formula.{Yes}
use Rattle.formula_tree.specs.declared.shape.Shape.{Shape}
use Rattle.formula_tree.specs.Makers.{IsMade, Keeps}
use Rattle.formula_tree.specs.Shapes.{tree_over, AllIds, IsProperShape}
use Rattle.formula_tree.proofs.Shapes.{all_ids_map}
use Rattle.formula_store.specs.declared.id.FormulaId.{FormulaId}
use Rattle.formula_store.specs.Nodes.{trees, tree, IsId, AreNodes, Front, Makes}
use Rattle.formula_store.proofs.Trees.{trees_from-push, length-trees, tree_front, node_tree}
use Rattle.formula_store.proofs.Places.{place_left}
use Rattle.formula_store.specs.Changes.{Grows}

-- a place of a list with one more at its end
pub at_push : {X : Type 0} (xs : List X) (x y : X) (i : ℕ) → slice_get (xs ++ x ∷ []) i ≡ Some y → (slice_get xs i ≡ Some y) ⊎ ((i ≡ length xs) × (y ≡ x))
at_push [] x y zero e = inr (refl, let h : Some x ≡ Some y = e in cc)
at_push [] x y (suc i) e = cc
at_push (a ∷ xs) x y zero e = inl e
at_push (a ∷ xs) x y (suc i) e = ⊎_elim (λ h. inl h) (λ h. inr (ap suc h.0, h.1)) (at_push xs x y i e)

-- what stays stays as more is made
pub keeps_then : (a b c : List (Shape FormulaId)) → Keeps (IsId a) (tree a) (IsId b) (tree b) → Keeps (IsId b) (tree b) (IsId c) (tree c) → Keeps (IsId a) (tree a) (IsId c) (tree c)
keeps_then a b c h k = record { is = λ id i. k.is id (h.is id i); same = λ id i. k.same id (h.is id i) ∙ h.same id i }

module _ (old : List (Shape FormulaId)) (node : Shape FormulaId) where
  -- an old id has its tree
  pub push_keeps : (id : FormulaId) → id.number < length old → tree (old ++ node ∷ []) id ≡ tree old id
  push_keeps id h = tree_front old (node ∷ []) id h

  -- and the new id has the shape over the old trees
  pub push_makes : tree (old ++ node ∷ []) (record { number = length old }) ≡ tree_over (tree old) node
  push_makes =
      ap (λ ts. get_or ts (length old) Yes) (trees_from-push [] old node) ∙ ap (λ k. get_or (trees old ++ tree_over (tree old) node ∷ []) k Yes) (sym (length-trees old))
      ∙ get_or-append_seam (trees old) (tree_over (tree old) node) [] Yes

  pub push_nodes : AreNodes old → AllIds (IsId old) node → IsProperShape node → ((i : ℕ) → ¬ (slice_get old i ≡ Some node)) → AreNodes (old ++ node ∷ [])
  push_nodes a ids proper new = record {
    below = λ i n e. ⊎_elim (λ h. a.below i n h) (λ h. subst (λ m. AllIds (λ (id : FormulaId). id.number < i) m) (sym h.1) (all_ids_map (IsId old) (λ id. id.number < i) (λ id k. omega arith) node ids)) (at_push old node n i e);
    proper = λ i n e. ⊎_elim (λ h. a.proper i n h) (λ h. subst IsProperShape (sym h.1) proper) (at_push old node n i e);
    once = λ i j n e f.
        ⊎_elim
        (λ h. ⊎_elim (λ k. a.once i j n h k) (λ k. absurd (new i (h ∙ ap Some k.1))) (at_push old node n j f))
        (λ h. ⊎_elim (λ k. absurd (new j (k ∙ ap Some h.1))) (λ k. h.0 ∙ sym k.0) (at_push old node n j f))
        (at_push old node n i e);
  }

module _ (old : List (Shape FormulaId)) (node : Shape FormulaId) (id : FormulaId) (new : List (Shape FormulaId)) where
  pub makes_front : Makes old node id new → Front old new
  makes_front m = record {
    stays = λ i n e. ⊎_elim (λ h. subst (λ ns. slice_get ns i ≡ Some n) (sym h.1) e) (λ h. subst (λ ns. slice_get ns i ≡ Some n) (sym h.1) (place_left old (node ∷ []) i n e)) m;
  }

  pub makes_grows : Makes old node id new → Grows old new
  makes_grows m = ⊎_elim (λ h. record { more = []; is = h.1 ∙ sym (append-nil old) }) (λ h. record { more = node ∷ []; is = h.1 }) m

  pub makes_keeps : AreNodes new → Makes old node id new → Keeps (IsId old) (tree old) (IsId new) (tree new)
  makes_keeps b m = record {
    is = λ i h. record {
      below = ⊎_elim (λ k. subst (λ ns. i.number < length ns) (sym k.1) h.below) (λ k. subst (λ ns. i.number < length ns) (sym k.1) (simp length-append (omega arith))) m;
      are = b;
    };
    same = λ i h. ⊎_elim (λ k. ap (λ ns. tree ns i) k.1) (λ k. ap (λ ns. tree ns i) k.1 ∙ push_keeps old node i h.below) m;
  }

  pub makes_made : AreNodes old → AreNodes new → Makes old node id new → IsMade (IsId new) (tree new) id (tree_over (tree old) node)
  makes_made a b m = record {
    is = record {
      below = ⊎_elim (λ k. subst (λ ns. id.number < length ns) (sym k.1) (slice_get_within old id.number node k.0)) (λ k. subst (λ ns. id.number < length ns) (sym k.1) (simp length-append (omega arith))) m;
      are = b;
    };
    same = ⊎_elim (λ k. ap (λ ns. tree ns id) k.1 ∙ node_tree old id.number node a k.0) (λ k. (λ i. tree (k.1 i) (record { number = k.0 i })) ∙ push_makes old node) m;
  }
