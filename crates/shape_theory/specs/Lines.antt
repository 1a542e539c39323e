-- A clean form as lists that are kept clean as they grow, as functions that compute. j joins the atoms of an inner list.
use Rattle.std.specs.Prelude.{ℕ, zero, suc, Bool, true, false, ◌&&◌, ◌||◌, Option, Some, None, List, [], ◌∷◌, ◌++◌, length, if◌then◌else◌}
use Rattle.logic_meaning.specs.Formula.{Formula, Formulas, Yes, No, One, Not, And, Or, Impl, Repl, Equiv, Ex, All, none, also}
use Rattle.logic_meaning.specs.declared.junction.Junction.{Junction}
use Rattle.logic_meaning.specs.declared.junction.Junction.TheVariants.{Conjunction, Disjunction}
use Rattle.normal_atoms.specs.Computed.{Merging, Settled, Into, Kept}
use Rattle.shape_theory.specs.Kit.{Kit}
use Rattle.logic_meaning.specs.Ways.{is_same, form_of_lines}
use Rattle.logic_meaning.specs.PlainForms.{of_none}

-- what becomes of an atom beside others
pub data Met (A : Type 0) : Type 0 where
  -- it merges with none
  Alone : Met A
  -- with the first with which it merges it settles the list
  Void : Met A
  -- with the first with which it merges it makes this atom, beside the others
  Meets : A → List A → Met A

module _ {A : Type 0} where
  -- b and the merging of b with the atom, before the others bs and what the atom becomes beside them
  abbrev pub met : Merging A → A → List A → Met A → Met A
  met Settled b bs m = Void
  met (Into d) b bs m = Meets d bs
  met Kept b bs Alone = Alone
  met Kept b bs Void = Void
  met Kept b bs (Meets d cs) = Meets d (b ∷ cs)

  -- the list with the atom, which goes in again where it has merged
  abbrev pub resolved : Met A → A → List A → (A → List A → Option (List A)) → Option (List A)
  resolved Alone a us again = Some (us ++ a ∷ [])
  resolved Void a us again = None
  resolved (Meets d cs) a us again = again d cs

module _ {A : Type 0} (kit : Kit A) (j : Junction) where
  -- what the atom becomes beside the atoms
  abbrev pub partner : A → List A → Met A
  partner a [] = Alone
  partner a (b ∷ bs) = met (kit.merge j b a) b bs (partner a bs)

  -- the atom put into a list of n atoms; nothing where the list is settled
  abbrev pub insert : ℕ → A → List A → Option (List A)
  insert zero a us = Some (us ++ a ∷ [])
  insert (suc n) a us = resolved (partner a us) a us (insert n)

  abbrev pub insert_into : A → Option (List A) → Option (List A)
  insert_into a None = None
  insert_into a (Some us) = insert (length us) a us

  -- the atoms put in one after another
  abbrev pub insert_all : Option (List A) → List A → Option (List A)
  insert_all o [] = o
  insert_all o (a ∷ us) = insert_all (insert_into a o) us

  -- the atom is in the list
  abbrev pub is_among : List A → A → Bool
  is_among [] a = false
  is_among (b ∷ bs) a = kit.same b a || is_among bs a

  -- each atom of the first list is in the second
  abbrev pub is_within : List A → List A → Bool
  is_within [] vs = true
  is_within (u ∷ us) vs = is_among vs u && is_within us vs

  -- some list is within vs
  abbrev pub some_within : List (List A) → List A → Bool
  some_within [] vs = false
  some_within (us ∷ ls) vs = is_within us vs || some_within ls vs

  -- the lists that vs is not within
  abbrev pub not_above : List (List A) → List A → List (List A)
  not_above [] vs = []
  not_above (us ∷ ls) vs = if is_within vs us then not_above ls vs else us ∷ not_above ls vs

  -- one list more: it goes where another is within it, and the others go that it is within
  abbrev pub add : List (List A) → List A → List (List A)
  add ls vs = if some_within ls vs then ls else not_above ls vs ++ vs ∷ []

  abbrev pub add_if : List (List A) → Option (List A) → List (List A)
  add_if ls None = ls
  add_if ls (Some vs) = add ls vs

  abbrev pub add_all : List (List A) → List (List A) → List (List A)
  add_all ls [] = ls
  add_all ls (vs ∷ ks) = add_all (add ls vs) ks

  -- to the lists, those of us with each of ks
  abbrev pub add_line_products : List (List A) → List A → List (List A) → List (List A)
  add_line_products ls us [] = ls
  add_line_products ls us (vs ∷ ks) = add_line_products (add_if ls (insert_all (Some us) vs)) us ks

  -- to the lists, those of each of the first with each of the second
  abbrev pub add_products : List (List A) → List (List A) → List (List A) → List (List A)
  add_products ls [] ks = ls
  add_products ls (us ∷ hs) ks = add_products (add_line_products ls us ks) hs ks

  -- the lists of two members
  abbrev pub joined_lines : Bool → List (List A) → List (List A) → List (List A)
  joined_lines false ls ks = add_all ls ks
  joined_lines true ls ks = add_products [] ls ks

  abbrev mutual
    -- the lists of the clean form
    pub clean_lines : Formula A ℕ → List (List A)
    clean_lines Yes = of_none (is_same j Conjunction)
    clean_lines No = of_none (is_same j Disjunction)
    clean_lines (One a) = (a ∷ []) ∷ []
    clean_lines (Not f) = []
    clean_lines (And fs) = more_clean_lines (is_same j Conjunction) (of_none (is_same j Conjunction)) fs
    clean_lines (Or fs) = more_clean_lines (is_same j Disjunction) (of_none (is_same j Disjunction)) fs
    clean_lines (Impl f g) = []
    clean_lines (Repl f g) = []
    clean_lines (Equiv f g) = []
    clean_lines (Ex x f) = []
    clean_lines (All x f) = []

    -- those of the members, beside the lists so far
    pub more_clean_lines : Bool → List (List A) → Formulas A ℕ → List (List A)
    more_clean_lines b ls none = ls
    more_clean_lines b ls (also f fs) = more_clean_lines b (joined_lines b ls (clean_lines f)) fs

  -- the clean form
  abbrev pub clean_form : Formula A ℕ → Formula A ℕ
  clean_form f = form_of_lines j (clean_lines f)
