-- The atoms that have none of the names are those of the theory without the names of the block.
use Rattle.std.proofs.Common.{◌≡◌, ℕ, zero, suc, ◌+◌, ◌<◌, Bool, true, false, ◌||◌, List, [], ◌∷◌, ◌++◌, append_assoc, drop, get_or, length, map, refl, ap, ◌∙◌, sym, subst, arith, if◌then◌else◌}
use Rattle.std.specs.List.{AllByRecursion, list_any}
use Rattle.logic_meaning.specs.Atom as meant
use Rattle.logic_meaning.specs.AtomKit.{without}
use Rattle.logic_meaning.specs.Contained.{contains}
use Rattle.normal_atoms.specs.declared.atoms.Atom.{Atom}
use Rattle.normal_atoms.specs.Atoms.{atom_of, IsWellFormed}
use Rattle.logic_meaning.specs.declared.form.VarId.{VarId}
use Rattle.case_theory.specs.CaseTree.{without_all}
use Rattle.branch_rounds.specs.Branches.{numbers}
use Rattle.engine_answers.specs.Assumed.{lacking}

-- an atom more at the front
without_more : (names : List VarId) (a : meant.Atom) (ks : List meant.Atom) →
    without_all (numbers names) (a ∷ ks) ≡ (if list_any (λ (x : VarId). contains a x.number) names then without_all (numbers names) ks else a ∷ without_all (numbers names) ks)
without_more [] a ks = refl
without_more (x ∷ names) a ks = ap (without contains x.number) (without_more names a ks) ∙ go (contains a x.number) (list_any (λ (y : VarId). contains a y.number) names) refl
  where
    rest : List meant.Atom
    rest = without_all (numbers names) ks

    go : (b d : Bool) → contains a x.number ≡ b →
        without contains x.number (if d then without_all (numbers names) ks else a ∷ without_all (numbers names) ks)
        ≡ (if b || d then without contains x.number (without_all (numbers names) ks) else a ∷ without contains x.number (without_all (numbers names) ks))
    go true true e = refl
    go false true e = refl
    go true false e = ap (λ (t : Bool). if t then without contains x.number (without_all (numbers names) ks) else a ∷ without contains x.number (without_all (numbers names) ks)) e
    go false false e = ap (λ (t : Bool). if t then without contains x.number (without_all (numbers names) ks) else a ∷ without contains x.number (without_all (numbers names) ks)) e

pub lacking_is : (names : List VarId) (theory : List Atom) → map atom_of (lacking names theory) ≡ without_all (numbers names) (map atom_of theory)
lacking_is names [] = none_left names
  where
    none_left : (xs : List VarId) → [] ≡ without_all (numbers xs) []
    none_left [] = refl
    none_left (x ∷ xs) = ap (without contains x.number) (none_left xs)
lacking_is names (a ∷ theory) = go (list_any (λ (x : VarId). contains (atom_of a) x.number) names) (lacking_is names theory) ∙ sym (without_more names (atom_of a) (map atom_of theory))
  where
    go : (b : Bool) → map atom_of (lacking names theory) ≡ without_all (numbers names) (map atom_of theory) →
        map atom_of (if b then lacking names theory else a ∷ lacking names theory) ≡ (if b then without_all (numbers names) (map atom_of theory) else atom_of a ∷ without_all (numbers names) (map atom_of theory))
    go true e = e
    go false e = ap (◌∷◌ (atom_of a)) e

pub lacking_formed : (names : List VarId) (theory : List Atom) → AllByRecursion IsWellFormed theory → AllByRecursion IsWellFormed (lacking names theory)
lacking_formed names [] h = tt
lacking_formed names (a ∷ theory) h = go (list_any (λ (x : VarId). contains (atom_of a) x.number) names) (lacking_formed names theory h.1)
  where
    go : (b : Bool) → AllByRecursion IsWellFormed (lacking names theory) → AllByRecursion IsWellFormed (if b then lacking names theory else a ∷ lacking names theory)
    go true r = r
    go false r = (h.0, r)

-- ---- one atom after the other

abbrev any_of : List VarId → Atom → Bool
any_of names a = list_any (λ (x : VarId). contains (atom_of a) x.number) names

at_one : (names : List VarId) (xs : List Atom) (i : ℕ) (a : Atom) → i < length xs → a ≡ get_or xs i a →
    lacking names (drop i xs) ≡ (if any_of names a then lacking names (drop (suc i) xs) else a ∷ lacking names (drop (suc i) xs))
at_one names [] i a h e = absurd (omega arith)
at_one names (x ∷ xs) zero a h e = ap (λ (b : Atom). if any_of names b then lacking names xs else b ∷ lacking names xs) (sym e)
at_one names (x ∷ xs) (suc i) a h e = at_one names xs i a (omega arith) e

here : (names : List VarId) (xs : List Atom) (i : ℕ) (a : Atom) → i < length xs → a ≡ get_or xs i a →
    lacking names (drop i xs) ≡ (if any_of names a then lacking names (drop (i + 1) xs) else a ∷ lacking names (drop (i + 1) xs))
here names xs i a h e =
    let next : suc i ≡ i + 1 = omega arith in
    subst (λ (n : ℕ). lacking names (drop i xs) ≡ (if any_of names a then lacking names (drop n xs) else a ∷ lacking names (drop n xs))) next (at_one names xs i a h e)

module _ (names : List VarId) (xs : List Atom) (i : ℕ) (a : Atom) (h : i < length xs) (e : a ≡ get_or xs i a) (made all : List Atom) (w : made ++ lacking names (drop i xs) ≡ all) where
  -- one that has a name is left out
  pub left_out : any_of names a ≡ true → made ++ lacking names (drop (i + 1) xs) ≡ all
  left_out t = ap (λ ks. made ++ ks) (sym (here names xs i a h e ∙ ap (λ b. if b then lacking names (drop (i + 1) xs) else a ∷ lacking names (drop (i + 1) xs)) t)) ∙ w

  -- another is taken
  pub taken : any_of names a ≡ false → (new : List Atom) → new ≡ made ++ a ∷ [] → new ++ lacking names (drop (i + 1) xs) ≡ all
  taken t new n =
      ap (λ ks. ks ++ lacking names (drop (i + 1) xs)) n ∙ append_assoc made (a ∷ []) (lacking names (drop (i + 1) xs))
      ∙ ap (λ ks. made ++ ks) (sym (here names xs i a h e ∙ ap (λ b. if b then lacking names (drop (i + 1) xs) else a ∷ lacking names (drop (i + 1) xs)) t)) ∙ w
