-- What is known at a place, frame by frame.
use Rattle.std.proofs.Common.{◌≡◌, ℕ, zero, suc, ◌+◌, ◌<◌, Bool, true, false, refl, sym, ap, ◌∙◌, Option, Some, None, List, [], ◌∷◌, ◌++◌, length, take, map, get_or}
use Rattle.std.proofs.lemmas.List.{take_more}
use Rattle.std.specs.Prelude.{if◌then◌else◌}
use Rattle.logic_meaning.specs.Context.{Context}
use Rattle.logic_meaning.specs.Some.{EachOf}
use Rattle.logic_meaning.specs.Atom.{Atom}
use Rattle.logic_meaning.specs.declared.junction.Junction.{Junction}
use Rattle.logic_meaning.specs.NormalForm.{IsNormal, negated_normal}
use Rattle.normal_atoms.specs.Computed.{IsNormalWithin}
use Rattle.logic_meaning.specs.AtomKit.{without, tells}
use Rattle.shape_theory.specs.AtomKit.{atom_kit}
use Rattle.logic_meaning.specs.Contained.{contains}
use Rattle.shape_theory.specs.Pass.{first_answer, decided}
use Rattle.logic_meaning.specs.declared.form.VarId.{VarId}
use Rattle.theory_simplifier.specs.declared.known.Frame.{Frame}
use Rattle.theory_simplifier.specs.declared.known.Frame.TheVariants.{Beside, Under}
use Rattle.theory_simplifier.specs.Listed.{Listed, told_by}
use Rattle.theory_simplifier.specs.Known.{inside, known_inside, known_atoms, IsNormalFrame, AreNormalFrames}
use Rattle.theory_simplifier.proofs.Deciding.{decided-append}
use Rattle.theory_simplifier.proofs.Entries.{tells_normal}
use Rattle.theory_simplifier.proofs.Parting.{none_without, same_without}

pub known_inside-append : (ks : List Atom) (fs gs : List Frame) → known_inside ks (fs ++ gs) ≡ known_inside (known_inside ks fs) gs
known_inside-append ks [] gs = refl
known_inside-append ks (f ∷ fs) gs = known_inside-append (inside f ks) fs gs

module _ (P : Atom → Type 0) where
  each_append : (ks ls : List Atom) → EachOf P ks → EachOf P ls → EachOf P (ks ++ ls)
  each_append [] ls h k = k
  each_append (a ∷ ks) ls h k = (h.0, each_append ks ls h.1 k)

  each_without : (x : ℕ) (ks : List Atom) → EachOf P ks → EachOf P (without contains x ks)
  each_without x [] h = tt
  each_without x (k ∷ ks) h = split (contains k x) (each_without x ks h.1)
    where
      split : (b : Bool) → EachOf P (without contains x ks) → EachOf P (if b then without contains x ks else k ∷ without contains x ks)
      split true i = i
      split false i = (h.0, i)

told_each : (c : Context) (j : Junction) (us : List Atom) → EachOf (IsNormalWithin c) us → EachOf (IsNormalWithin c) (map (tells negated_normal j) us)
told_each c j [] h = tt
told_each c j (u ∷ us) h = (tells_normal c j u h.0, told_each c j us h.1)

pub inside_normal : (c : Context) (f : Frame) (ks : List Atom) → IsNormalFrame c f → EachOf (IsNormalWithin c) ks → EachOf (IsNormalWithin c) (inside f ks)
inside_normal c (Beside l) ks h k = each_append (IsNormalWithin c) (told_by l) ks (told_each c l.junction l.atoms h) k
inside_normal c (Under x) ks h k = each_without (IsNormalWithin c) x.number ks k

known_normal : (c : Context) (ks : List Atom) (fs : List Frame) → EachOf (IsNormalWithin c) ks → AreNormalFrames c fs → EachOf (IsNormalWithin c) (known_inside ks fs)
known_normal c ks [] k h = k
known_normal c ks (f ∷ fs) k h = known_normal c (inside f ks) fs (inside_normal c f ks h.0 k) h.1

each_take : {A : Type 0} (P : A → Type 0) (xs : List A) (i : ℕ) → EachOf P xs → EachOf P (take i xs)
each_take P [] zero h = tt
each_take P [] (suc i) h = tt
each_take P (x ∷ xs) zero h = tt
each_take P (x ∷ xs) (suc i) h = (h.0, each_take P xs i h.1)

-- what is known at the place i + 1 is known inside of the frame at i
pub known_more : (fs : List Frame) (i : ℕ) (d : Frame) → i < length fs → known_atoms (take (i + 1) fs) ≡ inside (get_or fs i d) (known_atoms (take i fs))
known_more fs i d h = ap known_atoms (take_more fs i d h) ∙ known_inside-append [] (take i fs) (get_or fs i d ∷ [])

module _ (c : Context) (a : Atom) (m : IsNormal c a) (fs : List Frame) (n : AreNormalFrames c fs) (i : ℕ) (within : i < length fs) (d : Frame) where
  abbrev outer : List Atom
  outer = known_atoms (take i fs)

  outer_normal : EachOf (IsNormalWithin c) outer
  outer_normal = known_normal c [] (take i fs) tt (each_take (IsNormalFrame c) fs i n)

  -- a list that decides the atom
  pub list_tells : (l : Listed) → get_or fs i d ≡ Beside l → (o : Option Bool) (b : Bool) → o ≡ decided (atom_kit c) (told_by l) a → o ≡ Some b → decided (atom_kit c) (known_atoms (take (i + 1) fs)) a ≡ o
  list_tells l e o b q s =
      ap (λ ks. decided (atom_kit c) ks a) (known_more fs i d within ∙ ap (λ f. inside f outer) e) ∙ decided-append (atom_kit c) (told_by l) outer a
      ∙ ap (λ z. first_answer z (decided (atom_kit c) outer a)) (sym q ∙ s) ∙ sym s

  -- one that does not
  pub list_silent : (l : Listed) → get_or fs i d ≡ Beside l → decided (atom_kit c) (told_by l) a ≡ None → decided (atom_kit c) (known_atoms (take (i + 1) fs)) a ≡ decided (atom_kit c) outer a
  list_silent l e q =
      ap (λ ks. decided (atom_kit c) ks a) (known_more fs i d within ∙ ap (λ f. inside f outer) e) ∙ decided-append (atom_kit c) (told_by l) outer a
      ∙ ap (λ z. first_answer z (decided (atom_kit c) outer a)) q

  -- the quantifier of a name that the atom has
  pub name_hides : (x : VarId) → get_or fs i d ≡ Under x → contains a x.number ≡ true → decided (atom_kit c) (known_atoms (take (i + 1) fs)) a ≡ None
  name_hides x e q = ap (λ ks. decided (atom_kit c) ks a) (known_more fs i d within ∙ ap (λ f. inside f outer) e) ∙ none_without c a x.number m q outer outer_normal

  -- of one that it has not
  pub name_passes : (x : VarId) → get_or fs i d ≡ Under x → contains a x.number ≡ false → decided (atom_kit c) (known_atoms (take (i + 1) fs)) a ≡ decided (atom_kit c) outer a
  name_passes x e q = ap (λ ks. decided (atom_kit c) ks a) (known_more fs i d within ∙ ap (λ f. inside f outer) e) ∙ same_without c a x.number m q outer outer_normal

-- the frame that was read
pub frame_read : (items fs : List Frame) (i : ℕ) (f g : Frame) → items ≡ fs → f ≡ get_or items i f → f ≡ g → get_or fs i f ≡ g
frame_read items fs i f g v r e = sym (r ∙ ap (λ xs. get_or xs i f) v) ∙ e
