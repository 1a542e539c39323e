-- The written formula of a tree is resolved to the tree, and no cause of a refusal applies.
use Rattle.std.proofs.Common.{◌≡◌, ℕ, ◌<◌, true, false, List, [], length, refl, ap, ◌∙◌}
use Rattle.std.specs.Prelude.{Ok}
use Rattle.std.specs.List.{IsDistinct}
use Rattle.logic_meaning.specs.Context.{Context, Fields, Integers}
use Rattle.logic_meaning.specs.Formula.{Yes, No, One, Not, And, Or, Impl, Repl, Equiv, Ex, All, none, also}
use Rattle.logic_meaning.specs.Sorted.{IsSorted}
use Rattle.logic_meaning.specs.Atom.{Atom, Compare, Congruent, Relation, Equals, Differs, Below, AtMost, Above, AtLeast, form_of}
use Rattle.logic_meaning.specs.Every.{Every, EveryOf, EveryBound, EveryBoundOf}
use Rattle.logic_meaning.specs.Replaced.{all_replaced}
use Rattle.logic_meaning.specs.Tree.{Tree, Trees}
use Rattle.logic_meaning.specs.NormalForm.{normal_atom, IsNormal}
use Rattle.normal_atoms.proofs.NormalLaws.{normal_stays}
use Rattle.language_meaning.specs.Trees.{FormulaTrees}
use Rattle.language_meaning.specs.Value.{same_name, relation_of}
use Rattle.language_meaning.specs.RationalForms.{formed, formed_difference}
use Rattle.language_meaning.specs.Resolving.{compared, congruent, resolved_atom, resolve}
use Rattle.logic_meaning.specs.Names.{place}
use Rattle.logic_meaning.specs.Text.{name_at}
use Rattle.formula_laws.specs.Within.{IsAtomWithin}
use Rattle.round_trip.specs.Written.{number_term, form_term, relation_sign, written_atom, written_formula}
use Rattle.logic_meaning.specs.Numbers.{IsFormInLimit, IsAtomInLimit}
use Rattle.round_trip.proofs.Forms.{whole, difference_formed}
use Rattle.round_trip.proofs.Places.{place_back, terms_numbered}

-- ---- atoms

relation_back : (r : Relation) → relation_of (relation_sign r) ≡ r
relation_back Equals = refl
relation_back Differs = refl
relation_back Below = refl
relation_back AtMost = refl
relation_back Above = refl
relation_back AtLeast = refl

-- the form of a normal atom is sorted
pub form_sorted : (c : Context) (a : Atom) → IsNormal c a → IsSorted (form_of a)
form_sorted Fields (Compare r f) n = n.oriented.sorted
form_sorted Integers (Compare r f) n = n.oriented.sorted
form_sorted Fields (Congruent b m f) n = absurd n
form_sorted Integers (Congruent b m f) n = n.sorted

-- the numbers of its form are within the limit
pub form_fits : (a : Atom) → IsAtomInLimit a → IsFormInLimit (form_of a)
form_fits (Compare r f) h = h
form_fits (Congruent b m f) h = h.1

-- what is known of each atom: it is normal, its names stand in the list, and its numbers are within the limit
abbrev pub Known : Context → List (List ℕ) → Atom → Type 0
Known c names a = IsNormal c a × (IsAtomWithin (length names) a × IsAtomInLimit a)

module _ (c : Context) (names : List (List ℕ)) (d : IsDistinct same_name names) where
  abbrev pub number : List ℕ → ℕ
  number = place names

  pub difference_is : (a : Atom) → Known c names a → formed_difference c number (form_term names (form_of a)) (number_term 0) ≡ Ok (whole (form_of a))
  difference_is a k = difference_formed c number names (form_of a) (form_fits a k.1.1) (form_sorted c a k.0) (terms_numbered names (form_of a).terms d k.1.0)

  pub atom_back : (a : Atom) → Known c names a → resolved_atom c [] number (written_atom names a) ≡ One a
  atom_back (Compare r f) k =
      ap (compared c (relation_sign r)) (difference_is (Compare r f) k) ∙ ap (λ s. normal_atom c (Compare s f)) (relation_back r) ∙ normal_stays c (Compare r f) k.0
  atom_back (Congruent true m f) k =
      ap (λ r. congruent c true r (formed c number (number_term m))) (difference_is (Congruent true m f) k) ∙ normal_stays c (Congruent true m f) k.0
  atom_back (Congruent false m f) k =
      ap (λ r. congruent c false r (formed c number (number_term m))) (difference_is (Congruent false m f) k) ∙ normal_stays c (Congruent false m f) k.0

  -- ---- the tree

  abbrev pub back : Tree → Tree
  back f = resolve c [] names (written_formula names f)

  abbrev pub written_members : Trees → FormulaTrees
  written_members fs = all_replaced (λ a. One (written_atom names a)) (name_at names) fs

  mutual
    pub tree_back : (f : Tree) → Every (Known c names) f → EveryBound (λ x. x < length names) f → back f ≡ f
    tree_back Yes h k = refl
    tree_back No h k = refl
    tree_back (One a) h k = atom_back a h
    tree_back (Not f) h k = ap Not (tree_back f h k)
    tree_back (And fs) h k = ap And (trees_back fs h k)
    tree_back (Or fs) h k = ap Or (trees_back fs h k)
    tree_back (Impl f g) h k = let p = tree_back f h.0 k.0 in let q = tree_back g h.1 k.1 in λ i. Impl (p i) (q i)
    tree_back (Repl f g) h k = let p = tree_back f h.0 k.0 in let q = tree_back g h.1 k.1 in λ i. Repl (p i) (q i)
    tree_back (Equiv f g) h k = let p = tree_back f h.0 k.0 in let q = tree_back g h.1 k.1 in λ i. Equiv (p i) (q i)
    tree_back (Ex x f) h k = let p = place_back names x d k.0 in let q = tree_back f h k.1 in λ i. Ex (p i) (q i)
    tree_back (All x f) h k = let p = place_back names x d k.0 in let q = tree_back f h k.1 in λ i. All (p i) (q i)

    trees_back : (fs : Trees) → EveryOf (Known c names) fs → EveryBoundOf (λ x. x < length names) fs → all_replaced (resolved_atom c [] number) number (written_members fs) ≡ fs
    trees_back none h k = refl
    trees_back (also f fs) h k = let p = tree_back f h.0 k.0 in let q = trees_back fs h.1 k.1 in λ i. also (p i) (q i)
