-- The formula of clean lists.
use Rattle.std.proofs.Common.{◌≡◌, ℕ, ◌+◌, ◌≤◌, ◌<◌, Bool, true, false, List, [], ◌∷◌, ◌++◌, map, take, length, get_or, Some, refl, sym, ap, ◌∙◌, arith}
use Rattle.std.specs.Prelude.{◌||◌, Result, Ok, Err, OnOk, min}
use Rattle.std.specs.List.{AllByRecursion}
use Rattle.std.proofs.lemmas.List.{take_more, map-append}
use Rattle.logic_meaning.specs.Context.{Context}
use Rattle.logic_meaning.specs.Formula.{Formula, Formulas, Yes, No, One, Not, And, Or, Impl, Repl, Equiv, Ex, All, none, also}
use Rattle.logic_meaning.specs.Atom.{Atom}
use Rattle.logic_meaning.specs.Fold.{from_pieces}
use Rattle.logic_meaning.specs.TurnedJunction.{turned_junction}
use Rattle.logic_meaning.specs.declared.junction.Junction.{Junction}
use Rattle.logic_meaning.specs.declared.junction.Junction.TheVariants.{Conjunction, Disjunction}
use Rattle.logic_meaning.specs.Shape.{IsQuantifierFree, AreQuantifierFree}
use Rattle.logic_meaning.specs.Tree.{Tree}
use Rattle.formula_tree.specs.declared.shape.Shape.{Shape}
use Rattle.formula_tree.specs.Trees.{members}
use Rattle.formula_tree.specs.Shapes.{tree_over}
use Rattle.formula_tree.specs.Makers.{IsMade, Keeps}
use Rattle.logic_meaning.specs.Quantified.{has_quantifier, some_quantifier}
use Rattle.formula_store.specs.declared.id.FormulaId.{FormulaId}
use Rattle.formula_store.specs.Nodes.{tree, IsId}
use Rattle.formula_store.proofs.Marked.{all_joined}
use Rattle.logic_meaning.specs.AtomsFirst.{ones}
use Rattle.logic_meaning.specs.Ways.{dual, line_form, line_forms, form_of_lines}
use Rattle.shape_theory.specs.AtomKit.{atom_kit}
use Rattle.logic_meaning.specs.PlainForms.{literals}
use Rattle.shape_theory.specs.Lines.{clean_lines}
use Rattle.shape_theory.specs.Counts.{sizes}
use Rattle.shape_theory.specs.CleanFormsLaws.{IsDistributable, cleaned}
use Rattle.shape_theory.proofs.Counts.{sizes_plain}
use Rattle.normal_forms.specs.declared.sizes.Sizes.{Sizes}
use Rattle.normal_forms.specs.Shapes.{neutral_shape, joined_shape}
use Rattle.normal_forms.specs.Sizes.{most, capped}
use Rattle.normal_forms.specs.Atoms.{AreAtomIds, atoms, AreLineIds, lines, AreLines}
use Rattle.normal_forms.proofs.Grown.{atoms_stay, ids_stay}
use Rattle.normal_forms.proofs.LineSteps.{all_get}

-- ---- a list joined

pub empty_joined : {Id : Type 0} (t : Id → Tree) (ids : List Id) (j : Junction) → length ids ≡ 0 → tree_over t (neutral_shape j) ≡ from_pieces j (Some (members (map t ids)))
empty_joined t [] Conjunction e = refl
empty_joined t [] Disjunction e = refl
empty_joined t (i ∷ ids) j e = absurd (omega arith)

pub one_joined : {Id : Type 0} (t : Id → Tree) (ids : List Id) (d : Id) (j : Junction) → length ids ≡ 1 → t (get_or ids 0 d) ≡ from_pieces j (Some (members (map t ids)))
one_joined t [] d j e = absurd (omega arith)
one_joined t (i ∷ []) d j e = refl
one_joined t (i ∷ k ∷ ids) d j e = absurd (omega arith)

pub many_joined : {Id : Type 0} (t : Id → Tree) (ids : List Id) (j : Junction) → ¬ (length ids ≡ 0) → ¬ (length ids ≡ 1) → tree_over t (joined_shape j ids) ≡ from_pieces j (Some (members (map t ids)))
many_joined t [] j h k = absurd (h refl)
many_joined t (i ∷ []) j h k = absurd (k refl)
many_joined t (i ∷ l ∷ ids) Conjunction h k = refl
many_joined t (i ∷ l ∷ ids) Disjunction h k = refl

-- the other junction is what a negation makes of it
pub turned_dual : (j : Junction) → turned_junction true j ≡ dual j
turned_dual Conjunction = refl
turned_dual Disjunction = refl

-- ---- an inner list

ones_are : (c : Context) (nodes : List (Shape FormulaId)) (us : List FormulaId) → AreAtomIds c nodes us → members (map (tree nodes) us) ≡ ones (atoms nodes us) none
ones_are c nodes [] h = refl
ones_are c nodes (u ∷ us) h = λ i. also (h.0.one i) (ones_are c nodes us h.1 i)

pub line_made : (c : Context) (j : Junction) (old nodes : List (Shape FormulaId)) (us : List FormulaId) → Keeps (IsId old) (tree old) (IsId nodes) (tree nodes) → AreAtomIds c old us
    → from_pieces j (Some (members (map (tree nodes) us))) ≡ line_form j (atoms old us)
line_made c j old nodes us k h =
    ap (λ fs. from_pieces j (Some fs)) (ones_are c nodes us (ids_stay c old nodes k us h))
    ∙ ap (λ us2. line_form j us2) (atoms_stay c old nodes k us h)

-- ---- all of them

forms_are : (j : Junction) (ls : List (List Atom)) → members (map (line_form j) ls) ≡ line_forms j ls
forms_are j [] = refl
forms_are j (l ∷ ls) = ap (also (line_form j l)) (forms_are j ls)

-- the ids are those of the lists so far
pub record AreForms (j : Junction) (nodes : List (Shape FormulaId)) (ls : List (List Atom)) (ids : List FormulaId) : Type 0 where
  pub are : AllByRecursion (IsId nodes) ids
  pub same : map (tree nodes) ids ≡ map (line_form j) ls

trees_stay : (old new : List (Shape FormulaId)) → Keeps (IsId old) (tree old) (IsId new) (tree new) → (ids : List FormulaId) → AllByRecursion (IsId old) ids → map (tree new) ids ≡ map (tree old) ids
trees_stay old new k [] h = refl
trees_stay old new k (u ∷ us) h = λ i. k.same u h.0 i ∷ trees_stay old new k us h.1 i

are_ids_stay : (old new : List (Shape FormulaId)) → Keeps (IsId old) (tree old) (IsId new) (tree new) → (ids : List FormulaId) → AllByRecursion (IsId old) ids → AllByRecursion (IsId new) ids
are_ids_stay old new k [] h = tt
are_ids_stay old new k (u ∷ us) h = (k.is u h.0, are_ids_stay old new k us h.1)

pub form_step : (c : Context) (j : Junction) (old nodes new : List (Shape FormulaId)) (items : List (List FormulaId)) (i : ℕ) (d : List FormulaId) (ids : List FormulaId) (id : FormulaId) → i < length items
    → Keeps (IsId old) (tree old) (IsId nodes) (tree nodes) → Keeps (IsId nodes) (tree nodes) (IsId new) (tree new) → AreLineIds c old items
    → AreForms j nodes (lines old (take i items)) ids → IsMade (IsId new) (tree new) id (from_pieces j (Some (members (map (tree nodes) (get_or items i d)))))
    → AreForms j new (lines old (take (i + 1) items)) (ids ++ id ∷ [])
form_step c j old nodes new items i d ids id l k m h s t =
    let here = all_get (AreAtomIds c old) items i d l h in
    record {
      are = all_joined (IsId new) ids (id ∷ []) (are_ids_stay nodes new m ids s.are) (t.is, tt);
      same = map-append (tree new) ids (id ∷ []) ∙ ap (λ fs. fs ++ tree new id ∷ []) (trees_stay nodes new m ids s.are ∙ s.same)
          ∙ ap (λ f. map (line_form j) (lines old (take i items)) ++ f ∷ []) (t.same ∙ line_made c j old nodes (get_or items i d) k here)
          ∙ sym (map-append (line_form j) (lines old (take i items)) (atoms old (get_or items i d) ∷ []))
          ∙ ap (map (line_form j)) (sym (ap (lines old) (take_more items i d l) ∙ map-append (atoms old) (take i items) (get_or items i d ∷ [])));
    }

pub whole_made : (j : Junction) (old nodes new : List (Shape FormulaId)) (items : List (List FormulaId)) (ids : List FormulaId) (r : FormulaId) → AreForms j nodes (lines old items) ids
    → IsMade (IsId new) (tree new) r (from_pieces (turned_junction true j) (Some (members (map (tree nodes) ids)))) → IsMade (IsId new) (tree new) r (form_of_lines j (lines old items))
whole_made j old nodes new items ids r s t = record {
  is = t.is;
  same = t.same ∙ ap (λ (i : Junction). from_pieces i (Some (members (map (tree nodes) ids)))) (turned_dual j) ∙ ap (λ fs. from_pieces (dual j) (Some (members fs))) s.same
      ∙ ap (λ fs. from_pieces (dual j) (Some fs)) (forms_are j (lines old items));
}

-- ---- no quantifier

or_left : (a b : Bool) → (a || b) ≡ false → a ≡ false
or_left true b e = e
or_left false b e = refl

or_right : (a b : Bool) → (a || b) ≡ false → b ≡ false
or_right true b e = absurd (cc (e))
or_right false b e = e

module _ {A N : Type 0} where
  mutual
    pub free_told : (f : Formula A N) → has_quantifier f ≡ false → IsQuantifierFree f
    free_told Yes e = tt
    free_told No e = tt
    free_told (One a) e = tt
    free_told (Not f) e = free_told f e
    free_told (And fs) e = all_free_told fs e
    free_told (Or fs) e = all_free_told fs e
    free_told (Impl f g) e = (free_told f (or_left (has_quantifier f) (has_quantifier g) e), free_told g (or_right (has_quantifier f) (has_quantifier g) e))
    free_told (Repl f g) e = (free_told f (or_left (has_quantifier f) (has_quantifier g) e), free_told g (or_right (has_quantifier f) (has_quantifier g) e))
    free_told (Equiv f g) e = (free_told f (or_left (has_quantifier f) (has_quantifier g) e), free_told g (or_right (has_quantifier f) (has_quantifier g) e))
    free_told (Ex x f) e = absurd (cc (e))
    free_told (All x f) e = absurd (cc (e))

    all_free_told : (fs : Formulas A N) → some_quantifier fs ≡ false → AreQuantifierFree fs
    all_free_told none e = tt
    all_free_told (also f fs) e = (free_told f (or_left (has_quantifier f) (some_quantifier fs) e), all_free_told fs (or_right (has_quantifier f) (some_quantifier fs) e))

-- ---- the whole

-- what holds wherever a call succeeded
pub on_any : {T E : Type 0} (Q : Type 0) (r : Result T E) → Q → OnOk r Q
on_any Q (Ok v) h = h
on_any Q (Err e) h = tt

pub ids_are : (c : Context) (nodes : List (Shape FormulaId)) (us : List FormulaId) → AreAtomIds c nodes us → AllByRecursion (IsId nodes) us
ids_are c nodes [] h = tt
ids_are c nodes (u ∷ us) h = (h.0.is, ids_are c nodes us h.1)

-- the formula that is made is the clean form
pub clean_made : (c : Context) (j : Junction) (f : Tree) (mid new : List (Shape FormulaId)) (ls : List (List FormulaId)) (r : FormulaId) → AreLines c mid (clean_lines (atom_kit c) j f) ls → IsMade (IsId new) (tree new) r (form_of_lines j (lines mid ls)) → cleaned c j f ≡ tree new r
clean_made c j f mid new ls r h m = sym (m.same ∙ ap (form_of_lines j) h.same)

-- ---- the places that are counted

pub few_places : (c : Context) (j : Junction) (f : Tree) (x : Sizes) → IsDistributable c f → x ≡ capped (sizes j f) → (limit : ℕ) → (limit < x.places → limit < literals j f) × (x.places ≤ limit → ¬ (x.places ≡ most) → literals j f ≤ limit)
few_places c j f x d e limit =
    let p = (sizes_plain c j f d).places in
    let k : x.places ≡ min (sizes j f).places most = ap (λ (y : Sizes). y.places) e in
    (λ h. omega arith, λ h n. within (sizes j f).places x.places limit k h n p)
  where
    within : (a b l : ℕ) → b ≡ min a most → b ≤ l → ¬ (b ≡ most) → a ≡ literals j f → literals j f ≤ l
    within a b l k h n p = omega (arith, n)
