-- A formula at a point over what is made of its members, shape by shape.
use Rattle.std.proofs.Common.{◌≡◌, ◌<◌, Bool, true, ◌&&◌, List, [], ◌∷◌, Option, Some, None, Vec, Global, MatchOption, length, map, refl, sym, ap, ◌∙◌}
use Rattle.std.proofs.Math.IntN.{ℤ, pos}
use Rattle.std.specs.Prelude.{option_map}
use Rattle.std.specs.List.{AllByRecursion}
use Rattle.logic_meaning.specs.declared.junction.Junction.{Junction}
use Rattle.logic_meaning.specs.Fold.{joined, folded, fold_list, all_pieces, from_pieces}
use Rattle.logic_meaning.specs.Form.{coefficient}
use Rattle.logic_meaning.specs.Formula.{One, also}
use Rattle.logic_meaning.specs.Tree.{Tree}
use Rattle.logic_meaning.specs.Substitution.{where_zero}
use Rattle.logic_meaning.specs.BothTheories.{raw_atom}
use Rattle.logic_meaning.specs.Steps.{normalised}
use Rattle.logic_meaning.specs.StopLimits.{atom_within, numbers_within, normal_within}
use Rattle.logic_meaning.specs.NormalForm.{normal_atom}
use Rattle.normal_atoms.specs.declared.atoms.Context.{Context}
use Rattle.normal_atoms.specs.declared.atoms.Normal.{Normal}
use Rattle.normal_atoms.specs.Atoms.{context_of, tree_of}
use Rattle.logic_meaning.specs.Atom as meant
use Rattle.formula_tree.specs.declared.shape.Shape.{Shape}
use Rattle.formula_tree.specs.Makers.{IsMade, Keeps}
use Rattle.formula_tree.specs.Trees.{members}
use Rattle.formula_store.specs.declared.id.FormulaId.{FormulaId}
use Rattle.formula_store.specs.Nodes.{tree, IsId}
use Rattle.nnf_trees.specs.Placed.{put, put_all, all_within, each_within}
use Rattle.nnf_trees.proofs.Pieces.{two_pieces}
use Rattle.nnf_trees.proofs.PutLaws.{also_within, and_true, put_joined, joined_within, normal_folded}
use Rattle.test_points.specs.declared.points.TestPoint.{TestPoint}
use Rattle.test_points.specs.Points.{place_of}
use Rattle.virtual_subst.specs.Shared.{IsAtomPut, IsNodePut, Held, Table, made_of}

pub both_true : (a b : Bool) → a ≡ true → b ≡ true → (a && b) ≡ true
both_true a b h k = ap (λ c. c && b) h ∙ k

module _ (c : Context) (t : TestPoint) (nodes made : List (Shape FormulaId)) where
  -- what was made stays
  pub still_put : (made2 : List (Shape FormulaId)) → Keeps (IsId made) (tree made) (IsId made2) (tree made2) → (id copy : FormulaId) → IsNodePut c t nodes made id copy → IsNodePut c t nodes made2 id copy
  still_put made2 k id copy h = record { is = k.is copy h.is; formula = k.same copy h.is ∙ h.formula; within = h.within }

  -- the formula is f
  pub put_as : (f : Tree) (id copy : FormulaId) → tree nodes id ≡ f → IsMade (IsId made) (tree made) copy (put (context_of c) t.name.number (place_of t) f) → all_within (context_of c) t.name.number (place_of t) f ≡ true
      → IsNodePut c t nodes made id copy
  put_as f id copy e m w = record {
    is = m.is;
    formula = m.same ∙ ap (put (context_of c) t.name.number (place_of t)) (sym e);
    within = ap (all_within (context_of c) t.name.number (place_of t)) e ∙ w;
  }

  -- an atom
  pub atom_put : (a : meant.Atom) (n : Normal) (id copy : FormulaId) → tree nodes id ≡ One a → IsAtomPut c t a n → IsMade (IsId made) (tree made) copy (tree_of n) → IsNodePut c t nodes made id copy
  atom_put a n id copy e p m =
      put_as (One a) id copy e (record { is = m.is; same = m.same ∙ sym (normal_folded n) ∙ ap folded p.formula })
      (and_true (atom_within (context_of c) t.name.number (place_of t) a) ∙ p.within)

  -- a formula that stays what it is
  module _ (kept : Keeps (IsId nodes) (tree nodes) (IsId made) (tree made)) (id : FormulaId) (is : IsId nodes id) where
    pub same_put : (f : Tree) → tree nodes id ≡ f → f ≡ put (context_of c) t.name.number (place_of t) f → all_within (context_of c) t.name.number (place_of t) f ≡ true → IsNodePut c t nodes made id id
    same_put f e p w = put_as f id id e (record { is = kept.is id is; same = kept.same id is ∙ e ∙ p }) w

    -- an atom without the name
    pub absent_put : (a : meant.Atom) → tree nodes id ≡ One a → coefficient t.name.number (meant.form_of a) ≡ pos 0 → IsNodePut c t nodes made id id
    absent_put a e k =
        let o = context_of c in
        let x = t.name.number in
        let s = place_of t in
        same_put (One a) e (ap (λ (z : ℤ). folded (where_zero z (One a) (normalised (normal_atom o) (raw_atom o x s a)))) (sym k))
        (and_true (atom_within o x s a) ∙ ap (λ (z : ℤ). where_zero z true (numbers_within x s a && normal_within (normalised (normal_atom o) (raw_atom o x s a)))) k)

  module _ (table : Table) where
    pub all_ids : (ids : List FormulaId) → AllByRecursion (Held c t nodes made table) ids → AllByRecursion (IsId made) (map (made_of table) ids)
    all_ids [] h = tt
    all_ids (id ∷ ids) h = (h.0.is, all_ids ids h.1)

    pub all_put : (ids : List FormulaId) → AllByRecursion (Held c t nodes made table) ids
        → members (map (tree made) (map (made_of table) ids)) ≡ put_all (context_of c) t.name.number (place_of t) (members (map (tree nodes) ids))
    all_put [] h = refl
    all_put (id ∷ ids) h = λ i. also (h.0.formula i) (all_put ids h.1 i)

    pub all_stay : (ids : List FormulaId) → AllByRecursion (Held c t nodes made table) ids → each_within (context_of c) t.name.number (place_of t) (members (map (tree nodes) ids)) ≡ true
    all_stay [] h = refl
    all_stay (id ∷ ids) h =
        also_within (context_of c) t.name.number (place_of t) (tree nodes id) (members (map (tree nodes) ids))
        ∙ both_true (all_within (context_of c) t.name.number (place_of t) (tree nodes id)) (each_within (context_of c) t.name.number (place_of t) (members (map (tree nodes) ids))) h.0.within (all_stay ids h.1)

    -- members joined, which are folded where they are made
    pub list_put : (j : Junction) (ids : List FormulaId) (id copy : FormulaId) (made2 : List (Shape FormulaId)) → tree nodes id ≡ joined j (members (map (tree nodes) ids)) → AllByRecursion (Held c t nodes made table) ids
        → IsMade (IsId made2) (tree made2) copy (fold_list j (members (map (tree made) (map (made_of table) ids)))) → IsNodePut c t nodes made2 id copy
    list_put j ids id copy made2 e h m =
        let o = context_of c in
        let x = t.name.number in
        let s = place_of t in
        let fs = members (map (tree nodes) ids) in
        record {
          is = m.is;
          formula = m.same ∙ ap (fold_list j) (all_put ids h) ∙ sym (put_joined o x s j fs) ∙ ap (put o x s) (sym e);
          within = ap (all_within o x s) e ∙ joined_within o x s j fs ∙ all_stay ids h;
        }

-- members of a list, gathered and joined, and a list whose members stay
module _ (c : Context) (t : TestPoint) (nodes : List (Shape FormulaId)) (table : Table) (j : Junction) (id : FormulaId) (ids : List FormulaId) (e : tree nodes id ≡ joined j (members (map (tree nodes) ids))) (held : AllByRecursion (Held c t nodes nodes table) ids) where
  pub list_made : (pieces : Option (Vec FormulaId Global)) (copy : FormulaId) (new : List (Shape FormulaId)) →
      all_pieces j (members (map (tree nodes) (map (made_of table) ids))) ≡ option_map (λ v. members (map (tree nodes) v.items)) pieces →
      IsMade (IsId new) (tree new) copy (from_pieces j (option_map (λ v. members (map (tree nodes) v.items)) pieces)) → IsNodePut c t nodes new id copy
  list_made pieces copy new p m = list_put c t nodes nodes table j ids id copy new e held (record { is = m.is; same = m.same ∙ ap (from_pieces j) (sym p) })

  pub list_stays : (pieces : Option (Vec FormulaId Global)) → IsId nodes id → all_pieces j (members (map (tree nodes) (map (made_of table) ids))) ≡ option_map (λ v. members (map (tree nodes) v.items)) pieces →
      MatchOption pieces ⊥ (λ v. (v.items ≡ ids) × (1 < length ids)) → IsNodePut c t nodes nodes id id
  list_stays None h p m = absurd m
  list_stays (Some v) h p m =
      list_made (Some v) id nodes p (record {
        is = h;
        same = e ∙ two_pieces (tree nodes) j ids m.1 ∙ ap (λ (l : List FormulaId). from_pieces j (Some (members (map (tree nodes) l)))) (sym m.0);
      })
