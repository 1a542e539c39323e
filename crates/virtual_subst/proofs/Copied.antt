-- What is made of formulas while more of them are made in the same place.
use Rattle.std.proofs.Common.{◌≡◌, ℕ, ◌<◌, inl, inr, List, [], ◌∷◌, Some, length, ap, sym, ◌∙◌, arith}
use Rattle.std.specs.Prelude.{slice_get}
use Rattle.std.proofs.lemmas.Option.{slice_get-get_or}
use Rattle.logic_meaning.specs.Some.{SomeOf}
use Rattle.normal_atoms.specs.declared.atoms.Context.{Context}
use Rattle.normal_atoms.specs.Atoms.{context_of}
use Rattle.formula_tree.specs.declared.shape.Shape.{Shape}
use Rattle.formula_tree.specs.Makers.{Keeps}
use Rattle.formula_tree.specs.Shapes.{ids_of}
use Rattle.formula_tree.proofs.Shapes.{all_listed}
use Rattle.formula_store.specs.declared.id.FormulaId.{FormulaId}
use Rattle.formula_store.specs.Nodes.{tree, IsId, AreNodes, Front}
use Rattle.formula_store.specs.Order.{Within, WithinSome, IsOrder, itself, inside}
use Rattle.formula_store.proofs.Before.{among_all}
use Rattle.formula_store.proofs.Marked.{all_on}
use Rattle.nnf_trees.specs.Placed.{put, all_within}
use Rattle.test_points.specs.declared.points.TestPoint.{TestPoint}
use Rattle.test_points.specs.Points.{place_of}
use Rattle.virtual_subst.specs.declared.truths.Truths.{Truths}
use Rattle.virtual_subst.specs.Shared.{IsNodePut, AreTruths}

-- among the nodes the copy stands for the formula at the point
pub record IsCopied (c : Context) (t : TestPoint) (nodes : List (Shape FormulaId)) (id copy : FormulaId) : Type 0 where
  pub here : IsId nodes id
  pub put : IsNodePut c t nodes nodes id copy

module _ (old new : List (Shape FormulaId)) (k : Keeps (IsId old) (tree old) (IsId new) (tree new)) where
  pub truths_stay : (t : Truths) → AreTruths old t → AreTruths new t
  truths_stay t h = record {
    yes = record { is = k.is t.yes h.yes.is; same = k.same t.yes h.yes.is ∙ h.yes.same };
    no = record { is = k.is t.no h.no.is; same = k.same t.no h.no.is ∙ h.no.same };
  }

  module _ (c : Context) (t : TestPoint) (id copy : FormulaId) (here : IsId old id) where
    -- what is put among the nodes as they are now is put among those that there were
    pub put_before : IsNodePut c t new new id copy → IsNodePut c t old new id copy
    put_before h = record {
      is = h.is;
      formula = h.formula ∙ ap (put (context_of c) t.name.number (place_of t)) (k.same id here);
      within = ap (all_within (context_of c) t.name.number (place_of t)) (sym (k.same id here)) ∙ h.within;
    }

    -- and the other way round
    pub copied_now : IsNodePut c t old new id copy → IsCopied c t new id copy
    copied_now h = record {
      here = k.is id here;
      put = record {
        is = h.is;
        formula = h.formula ∙ ap (put (context_of c) t.name.number (place_of t)) (sym (k.same id here));
        within = ap (all_within (context_of c) t.name.number (place_of t)) (k.same id here) ∙ h.within;
      };
    }

  -- what was copied stays so
  pub copied_later : (c : Context) (t : TestPoint) (id copy : FormulaId) → IsCopied c t old id copy → IsCopied c t new id copy
  copied_later c t id copy h =
      copied_now c t id copy h.here (record { is = k.is copy h.put.is; formula = k.same copy h.put.is ∙ h.put.formula; within = h.put.within })

-- ---- the list of the distinct subformulas serves while nodes are added

module _ (old new : List (Shape FormulaId)) (are : AreNodes old) (front : Front old new) where
  pub node_before : (i : ℕ) (n : Shape FormulaId) → i < length old → slice_get new i ≡ Some n → slice_get old i ≡ Some n
  node_before i n h e = let here = slice_get-get_or old i n h in let there = front.stays i _ here in here ∙ sym there ∙ e

  within_later : (a b : FormulaId) → Within old a b → Within new a b
  within_later a b itself = itself
  within_later a b (inside {m = m} n e s w) = inside {m = m} n (front.stays a.number n e) s (within_later m b w)

  member_before : (a m : FormulaId) (n : Shape FormulaId) → a.number < length old → slice_get old a.number ≡ Some n → SomeOf (λ i. i ≡ m) (ids_of n) → m.number < length old
  member_before a m n h e s =
      let below = among_all (λ (id : FormulaId). id.number < a.number) (ids_of n) m (all_listed (λ (id : FormulaId). id.number < a.number) n (are.below a.number n e)) s in omega arith

  within_before : (a b : FormulaId) → a.number < length old → Within new a b → Within old a b
  within_before a b h itself = itself
  within_before a b h (inside {m = m} n e s w) =
      let here = node_before a.number n h e in
      inside {m = m} n here s (within_before m b (member_before a m n h here s) w)

  pub order_stays : (root : FormulaId) (ids : List FormulaId) → root.number < length old → IsOrder old (root ∷ []) ids → IsOrder new (root ∷ []) ids
  order_stays root ids h o = record {
    rises = o.rises;
    all = λ x w. o.all x (before x w);
    only = all_on (WithinSome old (root ∷ [])) (WithinSome new (root ∷ [])) later ids o.only;
  }
    where
      before : (x : FormulaId) → WithinSome new (root ∷ []) x → WithinSome old (root ∷ []) x
      before x (inl w) = inl (within_before root x h w)
      before x (inr w) = absurd w

      later : (x : FormulaId) → WithinSome old (root ∷ []) x → WithinSome new (root ∷ []) x
      later x (inl w) = inl (within_later root x w)
      later x (inr w) = absurd w
