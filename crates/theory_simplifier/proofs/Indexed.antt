-- A list read at the places that its index has for a number.
use Rattle.std.proofs.Common.{◌≡◌, ℕ, nat_eq, eqb-true, ◌+◌, ◌<◌, ◌≤◌, Bool, true, false, refl, sym, ap, ap₂, ◌∙◌, List, [], ◌∷◌, ◌++◌, length, take, map, get_or, subst}
use Rattle.std.proofs.Math.ListN.{set}
use Rattle.std.specs.Prelude.{if◌then◌else◌}
use Rattle.std.specs.List.{AllByRecursion}
use Rattle.std.proofs.lemmas.List.{take_more, take_all}
use Rattle.logic_meaning.specs.Context.{Context}
use Rattle.logic_meaning.specs.Some.{EachOf}
use Rattle.logic_meaning.specs.Atom as meant
use Rattle.logic_meaning.specs.declared.junction.Junction.{Junction}
use Rattle.normal_atoms.specs.Atoms.{atom_of}
use Rattle.logic_meaning.specs.NormalForm.{negated_normal}
use Rattle.normal_atoms.specs.Computed.{IsNormalWithin}
use Rattle.logic_meaning.specs.AtomKit.{tells}
use Rattle.theory_simplifier.specs.declared.joined.Entry.{Entry}
use Rattle.theory_simplifier.specs.Listed.{Listed, entry_atom, IsEntry}
use Rattle.theory_simplifier.specs.VariableParts.{part_number}
use Rattle.theory_simplifier.specs.Places.{Table, places_at, places_of, ArePlaces}
use Rattle.theory_simplifier.proofs.Entries.{length_map, map_at, map_append, map_set, all_place, told_normal}
use Rattle.theory_simplifier.proofs.Partners.{each_last, each_at}
use Rattle.theory_simplifier.proofs.Placing.{place_within, before_place, at_places, places_last, places_set}

-- what is seen of the entries
abbrev pub seen : Junction → List Entry → Listed
seen j es = record { junction = j; atoms = map entry_atom es }

module _ (j : Junction) (es : List Entry) (l : Listed) (v : seen j es ≡ l) (ok : AllByRecursion (IsEntry j) es) (table : Table) (index : ArePlaces part_number table (map entry_atom es)) (p : ℕ) (ps : List ℕ) (e : ps ≡ places_at table p) where
  atoms_are : map entry_atom es ≡ l.atoms
  atoms_are = ap (λ (k : Listed). k.atoms) v

  places_are : ps ≡ places_of part_number p l.atoms
  places_are = e ∙ index p ∙ ap (places_of part_number p) atoms_are

  module _ (k : ℕ) (h : k < length ps) where
    pub in_atoms : get_or ps k 0 < length l.atoms
    in_atoms = subst (λ (is : List ℕ). get_or is k 0 < length l.atoms) (sym places_are) (place_within part_number p l.atoms k 0 (subst (λ (is : List ℕ). k < length is) places_are h))

    pub in_entries : get_or ps k 0 < length es
    in_entries = subst (λ (n : ℕ). get_or ps k 0 < n) (ap length (sym atoms_are) ∙ length_map entry_atom es) in_atoms

    module _ (x : Entry) (is : x ≡ get_or es (get_or ps k 0) x) where
      pub entry_here : IsEntry j x
      entry_here = subst (IsEntry j) (sym is) (all_place (IsEntry j) es (get_or ps k 0) x in_entries ok)

      pub atom_here : (a : meant.Atom) → get_or l.atoms (get_or ps k 0) a ≡ entry_atom x
      atom_here a = ap (λ us. get_or us (get_or ps k 0) a) (sym atoms_are) ∙ map_at entry_atom es (get_or ps k 0) x a in_entries ∙ ap entry_atom (sym is)

      pub told_here : (a : meant.Atom) → atom_of x.told ≡ tells negated_normal l.junction (get_or l.atoms (get_or ps k 0) a)
      told_here a = entry_here.tells_so ∙ ap (λ i. tells negated_normal i (entry_atom x)) (ap (λ (m : Listed). m.junction) v) ∙ ap (tells negated_normal l.junction) (sym (atom_here a))

      pub normal_here : (c : Context) → EachOf (IsNormalWithin c) l.atoms → IsNormalWithin c (entry_atom x)
      normal_here c n = subst (IsNormalWithin c) (atom_here (entry_atom x)) (each_at (IsNormalWithin c) l.atoms (get_or ps k 0) (entry_atom x) in_atoms n)

      pub told_normal_here : (c : Context) → EachOf (IsNormalWithin c) l.atoms → IsNormalWithin c (atom_of x.told)
      told_normal_here c n = told_normal c j x entry_here (normal_here c n)

  module _ (P : meant.Atom → Type 0) (a : meant.Atom) where
    abbrev HoldsAt : ℕ → Type 0
    HoldsAt i = P (get_or l.atoms i a)

    -- it holds at one place more
    pub first_more : (k : ℕ) → k < length ps → EachOf HoldsAt (take k ps) → P (get_or l.atoms (get_or ps k 0) a) → EachOf HoldsAt (take (k + 1) ps)
    first_more k h f q = subst (EachOf HoldsAt) (sym (take_more ps k 0 h)) (each_last HoldsAt (take k ps) (get_or ps k 0) f q)

    -- before the next place it holds of all atoms, if it does of those of other numbers
    pub before_here : (k : ℕ) → k < length ps → EachOf (λ b. nat_eq (part_number b) p ≡ false → P b) l.atoms → EachOf HoldsAt (take k ps) → EachOf P (take (get_or ps k 0) l.atoms)
    before_here k h o f =
        subst (λ (is : List ℕ). EachOf P (take (get_or is k 0) l.atoms)) (sym places_are)
        (before_place part_number p P a l.atoms k 0 o (subst (λ (is : List ℕ). k < length is) places_are h) (subst (λ (is : List ℕ). EachOf HoldsAt (take k is)) places_are f))

    -- and where there is none, of all
    pub all_here : (k : ℕ) → length ps ≤ k → EachOf (λ b. nat_eq (part_number b) p ≡ false → P b) l.atoms → EachOf HoldsAt (take k ps) → EachOf P l.atoms
    all_here k h o f = at_places part_number p P a l.atoms o (subst (EachOf HoldsAt) (take_all k ps h ∙ places_are) f)

-- ---- the index of a list with an atom more, and with another in the place of one

module _ (es : List Entry) (x : Entry) (old : Table) (index : ArePlaces part_number old (map entry_atom es)) where
  pub index_last : (new : Table) (part : ℕ) (place : ℕ) → part ≡ part_number (entry_atom x) → place ≡ length es → ((p : ℕ) → places_at new p ≡ (if nat_eq part p then places_at old part ++ place ∷ [] else places_at old p)) → ArePlaces part_number new (map entry_atom (es ++ x ∷ []))
  index_last new part place e n more p =
      more p ∙ split (nat_eq part p) refl
      ∙ ap (λ (f : ℕ). if nat_eq f p then places_of part_number p (map entry_atom es) ++ length (map entry_atom es) ∷ [] else places_of part_number p (map entry_atom es)) e
      ∙ sym (places_last part_number p (map entry_atom es) (entry_atom x)) ∙ ap (places_of part_number p) (sym (map_append entry_atom es (x ∷ [])))
    where
      split : (b : Bool) → nat_eq part p ≡ b → (if b then places_at old part ++ place ∷ [] else places_at old p) ≡ (if b then places_of part_number p (map entry_atom es) ++ length (map entry_atom es) ∷ [] else places_of part_number p (map entry_atom es))
      split true q = ap₂ (λ (is : List ℕ) (k : ℕ). is ++ k ∷ []) (index part ∙ ap (λ (f : ℕ). places_of part_number f (map entry_atom es)) (eqb-true part p q)) (n ∙ sym (length_map entry_atom es))
      split false q = index p

  pub index_set : (i : ℕ) (d : meant.Atom) → i < length es → part_number (entry_atom x) ≡ part_number (get_or (map entry_atom es) i d) → ArePlaces part_number old (map entry_atom (set es i x))
  index_set i d h e p = index p ∙ sym (places_set part_number p (map entry_atom es) i (entry_atom x) d (subst (λ (n : ℕ). i < n) (sym (length_map entry_atom es)) h) e) ∙ ap (places_of part_number p) (sym (map_set entry_atom es i x))
