-- The text of a formula is longer by its names than where these are empty.
use Rattle.std.proofs.Common.{◌≡◌, ℕ, ◌+◌, ◌≤◌, nat_eq, List, [], ◌++◌, length, refl, sym, ap, subst, ◌∙◌, arith, eqb-true}
use Rattle.logic_meaning.specs.Context.{Context, Fields, Integers}
use Rattle.logic_meaning.specs.Formula.{Yes, No, One, Not, And, Or, Impl, Repl, Equiv, Ex, All, none, also}
use Rattle.logic_meaning.specs.Every.{Every, EveryOf}
use Rattle.logic_meaning.specs.Plain.{IsPlain, ArePlain}
use Rattle.logic_meaning.specs.Sorted.{IsSorted}
use Rattle.logic_meaning.specs.Atom.{Atom, Compare, Congruent, form_of}
use Rattle.logic_meaning.specs.Measure.{as_member, size, members_size, more_size}
use Rattle.logic_meaning.specs.declared.junction.Junction.{Junction}
use Rattle.logic_meaning.specs.declared.junction.Junction.TheVariants.{Conjunction, Disjunction}
use Rattle.logic_meaning.specs.Sizes.{nodes, free_places, all_free_places}
use Rattle.logic_meaning.specs.Text.{tree_text}
use Rattle.logic_meaning.specs.Tree.{Tree, Trees, IsFree, atom_names}
use Rattle.logic_meaning.specs.NormalForm.{IsNormal}
use Rattle.formula_laws.proofs.EachAtom.{every_map}
use Rattle.formula_laws.proofs.Gathered.{sorted_stays}
use Rattle.formula_laws.proofs.Listed.{distinct_among, among_distinct}
use Rattle.formula_laws.proofs.TreeNames.{names_listed}
use Rattle.logic_meaning.specs.Form.{Form}
use Rattle.shape_theory.specs.Orderly.{IsOrderly, AreOrderly}
use Rattle.shape_theory.specs.Texts.{text_measure}
use Rattle.shape_theory.proofs.Measured.{text_is}
use Rattle.elimination_theory.specs.Theorems.{IsBranching, AreBranching, IsTidy}
use Rattle.text_extents.specs.declared.extent.Extent.{Extent}
use Rattle.std.specs.Prelude.{OnOk}
use Rattle.std.specs.declared.result.Result.{Result}
use Rattle.std.specs.declared.result.Result.TheVariants.{Ok, Err}
use Rattle.normal_atoms.specs.declared.atoms.Atom as code
use Rattle.normal_atoms.specs.declared.atoms.Atom.TheVariants as variant
use Rattle.normal_atoms.specs.Atoms.{atom_of, IsWellFormed}
use Rattle.text_extents.specs.Extents.{AddsAtom, AddsFormula, total, numbers, term_names, IsWritten, IsExtentOf, IsNeverLarger}
use Rattle.text_extents.proofs.Parts.{name_length, atom_is}
use Rattle.text_extents.proofs.Totals.{total-append, one_for, counted, counts}

abbrev AnyAtom : Atom → Type 0
AnyAtom a = Unit {0}

abbrev places : Tree → List ℕ
places f = free_places atom_names nat_eq f

abbrev all_places : Trees → List ℕ
all_places fs = all_free_places atom_names nat_eq fs

abbrev IsSortedAtom : Atom → Type 0
IsSortedAtom a = IsSorted (form_of a)

mutual
  orderly : (f : Tree) → IsPlain f → IsBranching f → IsOrderly AnyAtom f
  orderly Yes p b = tt
  orderly No p b = tt
  orderly (One a) p b = tt
  orderly (Not f) p b = absurd p
  orderly (And fs) p b = (b.0, all_orderly fs p b.1)
  orderly (Or fs) p b = (b.0, all_orderly fs p b.1)
  orderly (Impl f g) p b = absurd p
  orderly (Repl f g) p b = absurd p
  orderly (Equiv f g) p b = absurd p
  orderly (Ex x f) p b = absurd p
  orderly (All x f) p b = absurd p

  all_orderly : (fs : Trees) → ArePlain fs → AreBranching fs → AreOrderly AnyAtom fs
  all_orderly none p b = tt
  all_orderly (also f fs) p b = (orderly f p.0 b.1, all_orderly fs p.1 b.2)

-- the names of an atom with a sorted form
pub sorted_names : (a : Atom) → IsSorted (form_of a) → term_names (form_of a).terms ≡ atom_names a
sorted_names a s = ap (λ (f : Form). term_names f.terms) (sym (sorted_stays (form_of a) s))

sorted_well : (a : code.Atom) → IsWellFormed a → IsSorted (form_of (atom_of a))
sorted_well (variant.Compare r f) h = h.sorted
sorted_well (variant.Congruent b m f) h = h.2.sorted

-- an atom of the program is added as a formula
pub atom_added : (old new : Extent) (a : code.Atom) → IsWellFormed a → AddsAtom old new (atom_of a) → AddsFormula old new (One (atom_of a))
atom_added old new a w h = record { bytes_are = h.bytes_are; names_are = h.names_are ∙ ap (λ (l : List ℕ). numbers old.names.items ++ l) (sorted_names (atom_of a) (sorted_well a w)) }

pub on_ok_map : {T E : Type 0} (r : Result T E) {P Q : Type 0} → (P → Q) → OnOk r P → OnOk r Q
on_ok_map (Ok v) k h = k h
on_ok_map (Err e) k h = tt

module _ (names : List (List ℕ)) where
  mutual
    size_is : (f : Tree) → IsPlain f → Every IsSortedAtom f → size (text_measure names) f ≡ size (text_measure []) f + total (name_length names) (places f)
    size_is Yes p s = refl
    size_is No p s = refl
    size_is (One a) p s = let k = atom_is names a in let e = ap (total (name_length names)) (sorted_names a s) in omega arith
    size_is (Not f) p s = absurd p
    size_is (And fs) p s = let k = members_are fs Conjunction p s in omega arith
    size_is (Or fs) p s = let k = members_are fs Disjunction p s in omega arith
    size_is (Impl f g) p s = absurd p
    size_is (Repl f g) p s = absurd p
    size_is (Equiv f g) p s = absurd p
    size_is (Ex x f) p s = absurd p
    size_is (All x f) p s = absurd p

    member_is : (f : Tree) → IsPlain f → Every IsSortedAtom f → as_member (text_measure names) f (size (text_measure names) f) ≡ as_member (text_measure []) f (size (text_measure []) f) + total (name_length names) (places f)
    member_is Yes p s = refl
    member_is No p s = refl
    member_is (One a) p s = let k = atom_is names a in let e = ap (total (name_length names)) (sorted_names a s) in omega arith
    member_is (Not f) p s = absurd p
    member_is (And fs) p s = let k = members_are fs Conjunction p s in omega arith
    member_is (Or fs) p s = let k = members_are fs Disjunction p s in omega arith
    member_is (Impl f g) p s = absurd p
    member_is (Repl f g) p s = absurd p
    member_is (Equiv f g) p s = absurd p
    member_is (Ex x f) p s = absurd p
    member_is (All x f) p s = absurd p

    members_are : (fs : Trees) (j : Junction) → ArePlain fs → EveryOf IsSortedAtom fs → members_size (text_measure names) fs j ≡ members_size (text_measure []) fs j + total (name_length names) (all_places fs)
    members_are none j p s = refl
    members_are (also f fs) j p s =
        let k = member_is f p.0 s.0 in
        let l = more_is fs j p.1 s.1 in
        let e = total-append (name_length names) (places f) (all_places fs) in
        omega arith

    more_is : (fs : Trees) (j : Junction) → ArePlain fs → EveryOf IsSortedAtom fs → more_size (text_measure names) fs j ≡ more_size (text_measure []) fs j + total (name_length names) (all_places fs)
    more_is none j p s = refl
    more_is (also f fs) j p s =
        let k = member_is f p.0 s.0 in
        let l = more_is fs j p.1 s.1 in
        let e = total-append (name_length names) (places f) (all_places fs) in
        omega arith

  text_length : (f : Tree) → IsWritten f → length (tree_text names f) ≡ size (text_measure []) f + total (name_length names) (places f)
  text_length f w = text_is names AnyAtom f (orderly f w.is_plain w.two_members) ∙ size_is f w.is_plain w.sorted

-- ---- two formulas

module _ (f g : Tree) (written_f : IsWritten f) (written_g : IsWritten g) (large small : Extent) (e : IsExtentOf f large) (d : IsExtentOf g small)
    (bytes : small.bytes ≤ large.bytes) (names : (w : ℕ → ℕ) → total w (numbers small.names.items) ≤ total w (numbers large.names.items)) where
  weights : (w : ℕ → ℕ) → total w (places g) ≤ total w (places f)
  weights w = subst (λ (xs : List ℕ). total w xs ≤ total w (places f)) d.names_are (subst (λ (xs : List ℕ). total w (numbers small.names.items) ≤ total w xs) e.names_are (names w))

  pub no_larger : nodes g ≤ nodes f → IsNeverLarger f g
  no_larger n = record {
    nodes = n;
    text = λ texts.
        let a = text_length texts f written_f in
        let b = text_length texts g written_g in
        let w = weights (name_length texts) in
        let x = e.bytes_are in
        let y = d.bytes_are in
        omega arith;
  }

  pub no_other_names : (x : ℕ) → IsFree g x → IsFree f x
  no_other_names x h =
      let m = distinct_among nat_eq (places g) x ((names_listed g x).1 h) in
      let one = counted x (places g) m in
      let w = weights (one_for x) in
      (names_listed f x).0 (among_distinct nat_eq (λ a b e. eqb-true a b e) (places f) x (counts x (places f) (omega arith)))

-- ---- tidy formulas

sorted_normal : (c : Context) (a : Atom) → IsNormal c a → IsSorted (form_of a)
sorted_normal Fields (Compare r f) h = h.oriented.sorted
sorted_normal Integers (Compare r f) h = h.oriented.sorted
sorted_normal Fields (Congruent b m f) h = absurd h
sorted_normal Integers (Congruent b m f) h = h.sorted

pub tidy_written : (c : Context) (f : Tree) → IsTidy c f → IsWritten f
tidy_written c f t = record {
  is_plain = t.is_plain;
  two_members = t.two_members;
  sorted = every_map (IsNormal c) IsSortedAtom (sorted_normal c) f t.normal;
}
