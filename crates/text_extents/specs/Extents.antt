-- How long a text is beside its names, and the places of names in it.
use Rattle.std.specs.Prelude.{◌≡◌, ℕ, ℤ, ◌+◌, ◌≤◌, nat_eq, List, [], ◌∷◌, ◌++◌, map, length}
use Rattle.logic_meaning.specs.declared.form.VarId.{VarId}
use Rattle.logic_meaning.specs.Every.{Every}
use Rattle.logic_meaning.specs.Form.{Term, Form}
use Rattle.logic_meaning.specs.Sorted.{IsSorted}
use Rattle.logic_meaning.specs.Atom.{Atom, form_of}
use Rattle.logic_meaning.specs.Measure.{size, members_size}
use Rattle.logic_meaning.specs.declared.junction.Junction.{Junction}
use Rattle.logic_meaning.specs.Sizes.{nodes, free_places, all_free_places}
use Rattle.logic_meaning.specs.Plain.{IsPlain}
use Rattle.logic_meaning.specs.Text.{multiple_text, form_text, atom_text, tree_text}
use Rattle.logic_meaning.specs.Tree.{Tree, Trees, atom_names}
use Rattle.shape_theory.specs.Texts.{text_measure}
use Rattle.elimination_theory.specs.Theorems.{IsBranching}
use Rattle.text_extents.specs.declared.extent.Extent.{Extent}

-- the weights of the names together
abbrev pub total : (ℕ → ℕ) → List ℕ → ℕ
total w [] = 0
total w (x ∷ xs) = w x + total w xs

-- the numbers of names
abbrev pub numbers : List VarId → List ℕ
numbers names = map (λ (x : VarId). x.number) names

-- so many bytes of no name are added, and these names behind the others
pub record Adds (old new : Extent) (bytes : ℕ) (names : List ℕ) : Type 0 where
  pub bytes_are : new.bytes ≡ old.bytes + bytes
  pub names_are : numbers new.names.items ≡ numbers old.names.items ++ names

-- the names of terms, in their order
abbrev pub term_names : List Term → List ℕ
term_names ts = map (λ (t : Term). t.name) ts

-- the text of a part of a sum is added: that which the part has where all names are empty, and its names
abbrev pub AddsTerms : Extent → Extent → List ℕ → List Term → Type 0
AddsTerms old new text ts = Adds old new (length text) (term_names ts)

-- the text of a multiple of a name is added, without its sign
abbrev pub AddsMultiple : Extent → Extent → ℤ → VarId → Type 0
AddsMultiple old new times name = Adds old new (length (multiple_text [] (record { times = times; name = name.number }))) (name.number ∷ [])

-- the text of the form is added
abbrev pub AddsSum : Extent → Extent → Form → Type 0
AddsSum old new f = AddsTerms old new (form_text [] f) f.terms

-- the text of the atom is added
abbrev pub AddsAtom : Extent → Extent → Atom → Type 0
AddsAtom old new a = AddsTerms old new (atom_text [] a) (form_of a).terms

-- the text of the formula is added
abbrev pub AddsFormula : Extent → Extent → Tree → Type 0
AddsFormula old new f = Adds old new (size (text_measure []) f) (free_places atom_names nat_eq f)

-- the texts of the members are added, with what stands between them
abbrev pub AddsMembers : Extent → Extent → Junction → Trees → Type 0
AddsMembers old new j fs = Adds old new (members_size (text_measure []) fs j) (all_free_places atom_names nat_eq fs)

-- only and, or, constants and atoms with sorted forms stand in the formula, and each list in it has two members at least
pub record IsWritten (f : Tree) : Type 0 where
  pub is_plain : IsPlain f
  pub two_members : IsBranching f
  pub sorted : Every (λ (a : Atom). IsSorted (form_of a)) f

-- the extent of the formula's text
pub record IsExtentOf (f : Tree) (e : Extent) : Type 0 where
  pub bytes_are : e.bytes ≡ size (text_measure []) f
  pub names_are : numbers e.names.items ≡ free_places atom_names nat_eq f

-- g has no more nodes than f and, whatever the names are, no longer text
pub record IsNeverLarger (f g : Tree) : Type 0 where
  pub nodes : nodes g ≤ nodes f
  pub text : (names : List (List ℕ)) → length (tree_text names g) ≤ length (tree_text names f)
