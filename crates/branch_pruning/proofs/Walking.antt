-- Lists that are gone through, one member after another.
use Rattle.std.proofs.Common.{◌≡◌, ℕ, zero, suc, ◌+◌, ◌<◌, Bool, true, false, List, [], ◌∷◌, ◌++◌, length, map, take, drop, get_or, refl, sym, ap, ◌∙◌, subst, arith, append_assoc, add-one, drop-cons}
use lib.ListN.{replicate}
use Rattle.std.proofs.lemmas.List.{map-append, take_more}
use Rattle.std.specs.List.{AllByRecursion}
use Rattle.logic_meaning.specs.Context.{Context}
use Rattle.logic_meaning.specs.Point.{Point}
use Rattle.logic_meaning.specs.Atom.{Atom, Says}
use Rattle.logic_meaning.specs.Tree.{Tree}
use Rattle.normal_atoms.specs.declared.atoms.Atom.{Atom as Code}
use Rattle.normal_atoms.specs.Atoms.{atom_of}
use Rattle.formula_tree.specs.declared.shape.Shape.{Shape}
use Rattle.formula_tree.specs.Makers.{Keeps}
use Rattle.formula_store.specs.declared.id.FormulaId.{FormulaId}
use Rattle.formula_store.specs.Nodes.{tree, IsId}
use Rattle.theory_simplifier.proofs.Keeping.{still_ids, still_trees, all_joined}
use Rattle.atom_pruning.specs.declared.rows.AtomRows.{AtomRows}
use Rattle.atom_pruning.specs.Rows.{AreRowsOf, AreRows}
use Rattle.atom_pruning.specs.Kept.{AllSay, marked, AreEnough}
use Rattle.branch_pruning.specs.Cuts.{AreAll, IsIn, AreIn, said, left_of, left_by}
use Rattle.branch_pruning.proofs.Conjunctions.{rows_joined}

-- ---- rows

module _ (c : Context) where
  pub rows_length : (us : List Atom) (rows : List AtomRows) → AreRows c us rows → length rows ≡ length us
  rows_length [] [] h = refl
  rows_length [] (r ∷ rows) h = absurd h
  rows_length (u ∷ us) [] h = absurd h
  rows_length (u ∷ us) (r ∷ rows) h = ap suc (rows_length us rows h.1)

  -- the rows of one member more
  pub rows_more : (t : FormulaId → Tree) (ids : List FormulaId) (i : ℕ) (d : FormulaId) (rows : List AtomRows) (r : AtomRows) → i < length ids → AreRows c (map said (map t (take i ids))) rows → AreRowsOf c (said (t (get_or ids i d))) r →
      AreRows c (map said (map t (take (i + 1) ids))) (rows ++ r ∷ [])
  rows_more t ids i d rows r l h k =
      let longer : map said (map t (take (i + 1) ids)) ≡ map said (map t (take i ids)) ++ said (t (get_or ids i d)) ∷ [] =
      ap (λ xs. map said (map t xs)) (take_more ids i d l) ∙ ap (map said) (map-append t (take i ids) (get_or ids i d ∷ [])) ∙ map-append said (map t (take i ids)) (t (get_or ids i d) ∷ []) in
      subst (λ us. AreRows c us (rows ++ r ∷ [])) (sym longer) (rows_joined c (map said (map t (take i ids))) (said (t (get_or ids i d)) ∷ []) rows (r ∷ []) h (k, tt))

  -- the rows of one atom more
  pub atoms_more : (us : List Code) (i : ℕ) (u : Code) (rows : List AtomRows) (r : AtomRows) → i < length us → u ≡ get_or us i u → AreRows c (map atom_of (take i us)) rows → AreRowsOf c (atom_of u) r → AreRows c (map atom_of (take (i + 1) us)) (rows ++ r ∷ [])
  atoms_more us i u rows r l e h k =
      let longer : map atom_of (take (i + 1) us) ≡ map atom_of (take i us) ++ atom_of u ∷ [] =
      ap (map atom_of) (take_more us i u l ∙ ap (λ v. take i us ++ v ∷ []) (sym e)) ∙ map-append atom_of (take i us) (u ∷ []) in
      subst (λ vs. AreRows c vs (rows ++ r ∷ [])) (sym longer) (rows_joined c (map atom_of (take i us)) (atom_of u ∷ []) rows (r ∷ []) h (k, tt))

  -- what a marked row says, that stands after others
  pub row_said : (xs : List AtomRows) (row : AtomRows) (rest : List AtomRows) (us : List Atom) (bs : List Bool) → AreRows c us (xs ++ row ∷ rest) → get_or bs (length xs) false ≡ true →
      (a : Atom) × AreRowsOf c a row × ((p : Point ℕ) → AllSay (marked bs us) p → Says a p)
  row_said [] row rest [] bs h e = absurd h
  row_said [] row rest (u ∷ us) [] h e = cc
  row_said [] row rest (u ∷ us) (false ∷ bs) h e = cc
  row_said [] row rest (u ∷ us) (true ∷ bs) h e = (u, h.0, λ p m. m.0)
  row_said (x ∷ xs) row rest [] bs h e = absurd h
  row_said (x ∷ xs) row rest (u ∷ us) [] h e = cc
  row_said (x ∷ xs) row rest (u ∷ us) (false ∷ bs) h e = row_said xs row rest us bs h.1 e
  row_said (x ∷ xs) row rest (u ∷ us) (true ∷ bs) h e = let r = row_said xs row rest us bs h.1 e in (r.0, r.1, λ p m. r.2 p m.1)

-- ---- marks that are all set

all_marked : {X : Type 0} (count : ℕ) (us : List X) → length us ≡ count → marked (replicate count true) us ≡ us
all_marked zero [] e = refl
all_marked zero (u ∷ us) e = absurd (omega arith)
all_marked (suc n) [] e = refl
all_marked (suc n) (u ∷ us) e = ap (λ vs. u ∷ vs) (all_marked n us (omega arith))

pub all_enough : (c : Context) (ks us : List Atom) (bs : List Bool) (count : ℕ) → length us ≡ count → length bs ≡ count → bs ≡ replicate count true → AreEnough c ks us bs
all_enough c ks us bs count e l i = record { one_each = omega arith; enough = λ p o s m. subst (λ vs. AllSay vs p) (all_marked count us e) (subst (λ ms. AllSay (marked ms us) p) i m) }

-- ---- members

module _ (a b : List (Shape FormulaId)) (kept : Keeps (IsId a) (tree a) (IsId b) (tree b)) where
  -- one member more without its implied atom
  pub left_more : (f : FormulaId → Tree) (ids ms : List FormulaId) (bs : List Bool) (i : ℕ) (d r : FormulaId) → i < length ids → i < length bs → AllByRecursion (IsId a) ms →
      tree b r ≡ left_of (get_or bs i false) (f (get_or ids i d)) → map (tree a) ms ++ left_by (drop i bs) (map f (drop i ids)) ≡ left_by bs (map f ids) →
      map (tree b) (ms ++ r ∷ []) ++ left_by (drop (i + 1) bs) (map f (drop (i + 1) ids)) ≡ left_by bs (map f ids)
  left_more f ids ms bs i d r l m are e h =
      let rest = left_by (drop (i + 1) bs) (map f (drop (i + 1) ids)) in
      let next : left_by (drop i bs) (map f (drop i ids)) ≡ left_of (get_or bs i false) (f (get_or ids i d)) ∷ rest =
      (λ k. left_by ((drop-cons bs i false m) k) (map f ((drop-cons ids i d l) k))) ∙ (λ k. left_of (get_or bs i false) (f (get_or ids i d)) ∷ left_by (drop ((sym (add-one i)) k) bs) (map f (drop ((sym (add-one i)) k) ids))) in
      ap (λ fs. fs ++ rest) (map-append (tree b) ms (r ∷ [])) ∙ append_assoc (map (tree b) ms) (tree b r ∷ []) rest ∙ (λ k. still_trees a b kept ms are k ++ e k ∷ rest) ∙ ap (λ fs. map (tree a) ms ++ fs) (sym next) ∙ h

  pub ids_more : (ms : List FormulaId) (r : FormulaId) → AllByRecursion (IsId a) ms → IsId b r → AllByRecursion (IsId b) (ms ++ r ∷ [])
  ids_more ms r h i = all_joined (IsId b) ms (r ∷ []) (still_ids a b kept ms h) (i, tt)

  module _ (R : Tree → Tree → Type 0) where
    all_joined_more : (fs gs : List Tree) (f g : Tree) → AreAll R fs gs → R f g → AreAll R (fs ++ f ∷ []) (gs ++ g ∷ [])
    all_joined_more [] [] f g h k = (k, tt)
    all_joined_more [] (x ∷ gs) f g h k = absurd h
    all_joined_more (x ∷ fs) [] f g h k = absurd h
    all_joined_more (x ∷ fs) (y ∷ gs) f g h k = (h.0, all_joined_more fs gs f g h.1 k)

    -- one formula more
    pub cut_more : (f : FormulaId → Tree) (ids ms : List FormulaId) (i : ℕ) (d r : FormulaId) → i < length ids → AreIn R (map f (take i ids)) a ms → IsIn R (f (get_or ids i d)) b r → AreIn R (map f (take (i + 1) ids)) b (ms ++ r ∷ [])
    cut_more f ids ms i d r l h k =
        let longer : map f (take (i + 1) ids) ≡ map f (take i ids) ++ f (get_or ids i d) ∷ [] = ap (map f) (take_more ids i d l) ∙ map-append f (take i ids) (get_or ids i d ∷ []) in
        let same : map (tree b) (ms ++ r ∷ []) ≡ map (tree a) ms ++ tree b r ∷ [] = map-append (tree b) ms (r ∷ []) ∙ ap (λ fs. fs ++ tree b r ∷ []) (still_trees a b kept ms h.are) in
        record {
          are = ids_more ms r h.are k.is;
          to = subst (AreAll R (map f (take (i + 1) ids))) (sym same) (subst (λ fs. AreAll R fs (map (tree a) ms ++ tree b r ∷ [])) (sym longer) (all_joined_more (map f (take i ids)) (map (tree a) ms) (f (get_or ids i d)) (tree b r) h.to k.to));
        }
