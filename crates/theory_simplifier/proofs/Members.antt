-- Ids of members and the lists of trees that they stand for.
use Rattle.std.proofs.Common.{◌≡◌, ℕ, zero, suc, ◌+◌, ◌<◌, ◌≤◌, Bool, true, false, nat_eq, refl, sym, ap, ◌∙◌, List, [], ◌∷◌, ◌++◌, length, take, map, get_or, arith, eq-eqb, eqb-true}
use Rattle.std.proofs.lemmas.List.{take_more, take_all}
use Rattle.std.specs.Prelude.{◌||◌, if◌then◌else◌}
use Rattle.std.specs.List.{AllByRecursion, list_any}
use Rattle.indexmap.specs.IndexSet.{insert_key}
use Rattle.logic_meaning.specs.Context.{Context}
use Rattle.logic_meaning.specs.Formula.{none, also}
use Rattle.logic_meaning.specs.Fold.{append}
use Rattle.logic_meaning.specs.declared.junction.Junction.{Junction}
use Rattle.logic_meaning.specs.Atom.{Atom}
use Rattle.logic_meaning.specs.Same.{same_atom}
use Rattle.logic_meaning.specs.Sizes.{same_formula}
use Rattle.logic_meaning.specs.Tree.{Tree}
use Rattle.formula_laws.proofs.Same.{atom_same, atom_alike}
use Rattle.formula_laws.proofs.Sizes.{formula_same, formula_alike}
use Rattle.shape_theory.specs.AtomKit.{atom_kit}
use Rattle.shape_theory.specs.Pass.{Parts, has, pushed_unless, with_piece, with_pieces, with_atom_first, with_atoms, with_passed, known, pass, others}
use Rattle.shape_theory.specs.Orderly.{IsOrderly, AreOrderly}
use Rattle.formula_tree.specs.declared.shape.Shape.{Shape}
use Rattle.formula_tree.specs.Trees.{members}
use Rattle.formula_store.specs.declared.id.FormulaId.{FormulaId}
use Rattle.formula_store.specs.Nodes.{tree, IsId}
use Rattle.formula_store.proofs.Same.{same_tree}
use Rattle.theory_simplifier.specs.Parts.{same_id}
use Rattle.theory_simplifier.proofs.Parting.{same_test}

-- ---- a formula is among others exactly where its id is among theirs

module _ (nodes : List (Shape FormulaId)) (x : FormulaId) (is : IsId nodes x) where
  same_one : (y : FormulaId) → IsId nodes y → same_formula same_atom nat_eq (tree nodes y) (tree nodes x) ≡ same_id x y
  same_one y h =
      same_test (same_formula same_atom nat_eq (tree nodes y) (tree nodes x)) (same_id x y)
      (λ e. eq-eqb x.number y.number (ap (λ (z : FormulaId). z.number) (sym (same_tree nodes y x h is (formula_same same_atom nat_eq atom_same (λ a b k. eqb-true a b k) (tree nodes y) (tree nodes x) e)))))
      (λ e.
      let n : y.number ≡ x.number = sym (eqb-true x.number y.number e) in
      let i : y ≡ x = λ k. record { number = n k } in
      ap (λ z. same_formula same_atom nat_eq (tree nodes z) (tree nodes x)) i ∙ formula_alike same_atom nat_eq atom_alike (λ a. eq-eqb a a refl) (tree nodes x))

  module _ (c : Context) where
    has_one : (ids : List FormulaId) → AllByRecursion (IsId nodes) ids → has (atom_kit c) (members (map (tree nodes) ids)) (tree nodes x) ≡ list_any (same_id x) ids
    has_one [] h = refl
    has_one (y ∷ ids) h = λ i. same_one y h.0 i || has_one ids h.1 i

    last_member : (ids : List FormulaId) → members (map (tree nodes) (ids ++ x ∷ [])) ≡ append (members (map (tree nodes) ids)) (also (tree nodes x) none)
    last_member [] = refl
    last_member (y ∷ ids) = ap (also (tree nodes y)) (last_member ids)

    pushed : (b : Bool) (ids : List FormulaId) → members (map (tree nodes) (if b then ids else ids ++ x ∷ [])) ≡ pushed_unless b (tree nodes x) (members (map (tree nodes) ids))
    pushed true ids = refl
    pushed false ids = last_member ids

    -- the formula is put last unless it is there
    pub inserted : (ids : List FormulaId) → AllByRecursion (IsId nodes) ids
        → members (map (tree nodes) (insert_key same_id ids x)) ≡ pushed_unless (has (atom_kit c) (members (map (tree nodes) ids)) (tree nodes x)) (tree nodes x) (members (map (tree nodes) ids))
    inserted ids h =
        pushed (list_any (same_id x) ids) ids ∙ ap (λ b. pushed_unless b (tree nodes x) (members (map (tree nodes) ids))) (sym (has_one ids h))

-- ---- lists that are gone through

module _ {S : Type 0} (step : Tree → S → S) where
  -- the trees, one after another
  abbrev pub through : List Tree → S → S
  through [] s = s
  through (f ∷ fs) s = through fs (step f s)

module _ {S : Type 0} (step : Tree → S → S) where
  through_last : (fs : List Tree) (f : Tree) (s : S) → through step (fs ++ f ∷ []) s ≡ step f (through step fs s)
  through_last [] f s = refl
  through_last (g ∷ fs) f s = through_last fs f (step g s)

  module _ {Id : Type 0} (t : Id → Tree) where
    map_last : (xs : List Id) (x : Id) → map t (xs ++ x ∷ []) ≡ map t xs ++ t x ∷ []
    map_last [] x = refl
    map_last (y ∷ xs) x = ap (λ zs. t y ∷ zs) (map_last xs x)

    -- one tree more
    pub through_more : (ids : List Id) (i : ℕ) (d : Id) (s : S) → i < length ids → through step (map t (take (i + 1) ids)) s ≡ step (t (get_or ids i d)) (through step (map t (take i ids)) s)
    through_more ids i d s h = ap (λ xs. through step (map t xs) s) (take_more ids i d h) ∙ ap (λ fs. through step fs s) (map_last (take i ids) (get_or ids i d)) ∙ through_last (map t (take i ids)) (t (get_or ids i d)) s

    pub through_next : (ids : List Id) (i : ℕ) (d : Id) (s before after : S) → i < length ids → after ≡ step (t (get_or ids i d)) before → before ≡ through step (map t (take i ids)) s → after ≡ through step (map t (take (i + 1) ids)) s
    through_next ids i d s before after h e f = e ∙ ap (step (t (get_or ids i d))) f ∙ sym (through_more ids i d s h)

    pub through_all : (ids : List Id) (i : ℕ) (s : S) → length ids ≤ i → through step (map t (take i ids)) s ≡ through step (map t ids) s
    through_all ids i s h = ap (λ xs. through step (map t xs) s) (take_all i ids h)

module _ (c : Context) (j : Junction) (ks : List Atom) where
  pub through_pieces : (fs : List Tree) (s : Parts Atom) → through (with_piece (atom_kit c) j ks) fs s ≡ with_pieces (atom_kit c) j ks (members fs) s
  through_pieces [] s = refl
  through_pieces (f ∷ fs) s = through_pieces fs (with_piece (atom_kit c) j ks f s)

  pub through_atoms : (fs : List Tree) (s : Parts Atom) → through (with_atom_first (atom_kit c) j ks) fs s ≡ with_atoms (atom_kit c) j ks (members fs) s
  through_atoms [] s = refl
  through_atoms (f ∷ fs) s = through_atoms fs (with_atom_first (atom_kit c) j ks f s)

  -- a member passed, and put to the list
  abbrev pub with_next : Tree → Parts Atom → Parts Atom
  with_next f s = with_passed (atom_kit c) j ks f (pass (atom_kit c) f (known (atom_kit c) j s ks)) s

  pub through_others : (fs : List Tree) (s : Parts Atom) → through with_next fs s ≡ others (atom_kit c) (members fs) j ks s
  through_others [] s = refl
  through_others (f ∷ fs) s = through_others fs (with_next f s)

-- ---- what is known of the members

module _ (P : Atom → Type 0) {Id : Type 0} (t : Id → Tree) where
  pub orderly_at : (ids : List Id) (i : ℕ) (d : Id) → i < length ids → AreOrderly P (members (map t ids)) → IsOrderly P (t (get_or ids i d))
  orderly_at [] i d l h = absurd (omega arith)
  orderly_at (x ∷ ids) zero d l h = h.0
  orderly_at (x ∷ ids) (suc i) d l h = orderly_at ids i d (omega arith) h.1
