-- Making again, in a store, what was made beside one.
use Rattle.std.proofs.Common.{append_assoc, ◌≡◌, ℕ, ◌+◌, ◌-◌, ◌<◌, ◌≤◌, ⊎_elim, List, [], ◌∷◌, ◌++◌, Some, slice_get, length, get_or, take, drop, refl, ap, sym, ◌∙◌, subst, arith, length-append}
use Rattle.std.proofs.lemmas.List.{append-nil, get_or_append_left, take-append-drop, length-take-le}
use Rattle.std.proofs.Math.Seq.{get_or-append_seam}
use Rattle.std.proofs.lemmas.Bool.{cases_lt}
use Rattle.logic_meaning.specs.Tree.{Tree}
use Rattle.formula_tree.specs.declared.shape.Shape.{Shape}
use Rattle.formula_tree.specs.Makers.{IsMade, Keeps}
use Rattle.formula_tree.specs.Shapes.{tree_over, AllIds}
use Rattle.formula_tree.proofs.Shapes.{over_same, all_ids_map}
use Rattle.formula_store.specs.declared.id.FormulaId.{FormulaId}
use Rattle.formula_store.specs.Nodes.{tree, IsId, AreNodes}
use Rattle.formula_store.specs.Copies.{first_id, ported}
use Rattle.formula_store.specs.Changes.{Change, Grows, over, tree_on}
use Rattle.formula_store.proofs.Makes.{keeps_then}
use Rattle.formula_store.proofs.Places.{place_right}
use Rattle.formula_store.proofs.Ported.{ported_low, ported_high}
use Rattle.formula_store.proofs.Trees.{tree_front, node_tree_below}

-- the first of the new nodes are made in the store, which had the old ones
pub record Taken (old : List (Shape FormulaId)) (d : Change) (ids : List FormulaId) (now : List (Shape FormulaId)) : Type 0 where
  pub made : (k : ℕ) (id : FormulaId) → k < length ids → id.number ≡ d.begun + k → IsMade (IsId now) (tree now) (get_or ids k first_id) (tree (over old d) id)
  pub kept : Keeps (IsId old) (tree old) (IsId now) (tree now)
  pub grown : Grows old now
  pub few : length now ≤ length old + length ids

-- what is made stays made
made_still : (a b : List (Shape FormulaId)) → Keeps (IsId a) (tree a) (IsId b) (tree b) → (id : FormulaId) (f : Tree) → IsMade (IsId a) (tree a) id f → IsMade (IsId b) (tree b) id f
made_still a b k id f m = record { is = k.is id m.is; same = k.same id m.is ∙ m.same }

grows_both : (a b c : List (Shape FormulaId)) → Grows a b → Grows b c → Grows a c
grows_both a b c g h = record { more = g.more ++ h.more; is = h.is ∙ ap (λ ns. ns ++ h.more) g.is ∙ append_assoc a g.more h.more }

module _ (old : List (Shape FormulaId)) (d : Change) (few : d.begun ≤ length old) (are : AreNodes old) where
  pub taken_none : Taken old d [] old
  taken_none = record {
    made = λ k id h e. absurd (omega arith);
    kept = record { is = λ id h. h; same = λ id h. refl };
    grown = record { more = []; is = sym (append-nil old) };
    few = omega arith;
  }

  -- an id that stays has its tree
  low_tree : (id : FormulaId) → id.number < d.begun → tree (over old d) id ≡ tree old id
  low_tree id h =
      let n : length (take d.begun old) ≡ d.begun = length-take-le d.begun old few in
      tree_front (take d.begun old) d.own id (omega arith) ∙ sym (tree_front (take d.begun old) (drop d.begun old) id (omega arith)) ∙ ap (λ ns. tree ns id) (take-append-drop d.begun old)

  module _ (ids : List FormulaId) (now : List (Shape FormulaId)) (taken : Taken old d ids now) where
    -- the new id of an id stands for its tree
    pub ported_made : (id : FormulaId) → id.number < d.begun + length ids → IsMade (IsId now) (tree now) (ported d.begun ids id) (tree (over old d) id)
    ported_made id h =
        ⊎_elim
        (λ (l : id.number < d.begun). subst (λ i. IsMade (IsId now) (tree now) i (tree (over old d) id)) (sym (ported_low d.begun ids id l))
        (let h : IsId old id = record { below = omega arith; are = are } in record { is = taken.kept.is id h; same = taken.kept.same id h ∙ sym (low_tree id l) }))
        (λ (l : d.begun ≤ id.number). subst (λ i. IsMade (IsId now) (tree now) i (tree (over old d) id)) (sym (ported_high d.begun ids id l))
        (taken.made (id.number - d.begun) id (omega arith) (omega arith)))
        (cases_lt id.number d.begun)

    module _ (n : Shape FormulaId) (here : slice_get d.own (length ids) ≡ Some n) (below : AllIds (λ id. id.number < d.begun + length ids) n) where
      pub members_are : AllIds (λ id. IsId now (ported d.begun ids id)) n
      members_are = all_ids_map (λ id. id.number < d.begun + length ids) (λ id. IsId now (ported d.begun ids id)) (λ id h. let m = ported_made id h in m.is) n below

      next_tree : (id : FormulaId) → id.number ≡ d.begun + length ids → tree (over old d) id ≡ tree_over (tree (over old d)) n
      next_tree id e =
          let l : length (take d.begun old) ≡ d.begun = length-take-le d.begun old few in
          node_tree_below (over old d) id.number n (subst (λ k. AllIds (λ (m : FormulaId). m.number < k) n) (sym e) below) (place_right (take d.begun old) d.own (length ids) id.number n (omega arith) here)

      -- one more
      pub taken_next : (id : FormulaId) (new : List (Shape FormulaId)) → IsMade (IsId new) (tree new) id (tree_over (λ m. tree now (ported d.begun ids m)) n) → Keeps (IsId now) (tree now) (IsId new) (tree new)
          → Grows now new → length new ≤ length now + 1 → Taken old d (ids ++ id ∷ []) new
      taken_next id new m k g l =
          let same : tree_over (λ m. tree now (ported d.begun ids m)) n ≡ tree_over (tree (over old d)) n =
          over_same (λ m. tree now (ported d.begun ids m)) (tree (over old d)) n
          (all_ids_map (λ id. id.number < d.begun + length ids) (λ m. tree now (ported d.begun ids m) ≡ tree (over old d) m) (λ id h. let p = ported_made id h in p.same) n below) in
          record {
            made = λ j i h e.
                ⊎_elim
                (λ (b : j < length ids). subst (λ x. IsMade (IsId new) (tree new) x (tree (over old d) i)) (sym (get_or_append_left ids (id ∷ []) first_id j b)) (made_still now new k (get_or ids j first_id) (tree (over old d) i) (taken.made j i b e)))
                (λ (b : length ids ≤ j).
                let last : j ≡ length ids = omega (arith, simp length-append at h) in
                let at_end : get_or (ids ++ id ∷ []) j first_id ≡ id = ap (λ p. get_or (ids ++ id ∷ []) p first_id) last ∙ get_or-append_seam ids id [] first_id in
                subst (λ x. IsMade (IsId new) (tree new) x (tree (over old d) i)) (sym at_end) (record { is = m.is; same = m.same ∙ same ∙ sym (next_tree i (omega arith)) }))
                (cases_lt j (length ids));
            kept = keeps_then old now new taken.kept k;
            grown = grows_both old now new taken.grown g;
            few = let f = taken.few in simp length-append (omega arith);
          }
