-- Atoms of which the first ones are put behind the others.
use Rattle.std.proofs.Common.{◌≡◌, ◌⊎◌, ◌++◌, ℕ, List, [], ◌∷◌, map, inl, inr, ⊎_elim, sym, subst}
use Rattle.std.specs.List.{AllByRecursion}
use Rattle.std.proofs.lemmas.List.{map-append}
use Rattle.logic_meaning.specs.Context.{Context}
use Rattle.logic_meaning.specs.Formula.{And}
use Rattle.logic_meaning.specs.Point.{Point}
use Rattle.logic_meaning.specs.Some.{SomeOf, EachOf}
use Rattle.logic_meaning.specs.Atom as meant
use Rattle.logic_meaning.specs.Atom.{Mentions, Says}
use Rattle.logic_meaning.specs.Tree.{Trees, TrueAt}
use Rattle.elimination_theory.proofs.SomeListed.{each_left, each_right, each_append}
use Rattle.normal_atoms.specs.declared.atoms.Atom.{Atom}
use Rattle.normal_atoms.specs.Atoms.{atom_of, IsWellFormed}
use Rattle.narrowed_blocks.specs.Narrowing.{listed, IsNameOf}
use Rattle.narrowed_blocks.proofs.Listed.{listed_true}

-- the first ones are well formed where all are
all_front : (us vs : List Atom) → AllByRecursion IsWellFormed (us ++ vs) → AllByRecursion IsWellFormed us
all_front [] vs h = tt
all_front (u ∷ us) vs h = (h.0, all_front us vs h.1)

-- so are the others
all_back : (us vs : List Atom) → AllByRecursion IsWellFormed (us ++ vs) → AllByRecursion IsWellFormed vs
all_back [] vs h = h
all_back (u ∷ us) vs h = all_back us vs h.1

-- and all where both are
all_joined : (us vs : List Atom) → AllByRecursion IsWellFormed us → AllByRecursion IsWellFormed vs → AllByRecursion IsWellFormed (us ++ vs)
all_joined [] vs h k = k
all_joined (u ∷ us) vs h k = (h.0, all_joined us vs h.1 k)

-- the turned list is well formed where the list is
pub turned_formed : (us vs : List Atom) → AllByRecursion IsWellFormed (us ++ vs) → AllByRecursion IsWellFormed (vs ++ us)
turned_formed us vs h = all_joined vs us (all_back us vs h) (all_front us vs h)

-- what each of the list has, each of the turned list has
pub turned_each : (P : meant.Atom → Type 0) (us vs : List Atom) → EachOf P (map atom_of (us ++ vs)) → EachOf P (map atom_of (vs ++ us))
turned_each P us vs h =
    let k = subst (EachOf P) (map-append atom_of us vs) h in
    subst (EachOf P) (sym (map-append atom_of vs us)) (each_append P (map atom_of vs) (map atom_of us) (each_right P (map atom_of us) (map atom_of vs) k) (each_left P (map atom_of us) (map atom_of vs) k))

-- some of the first ones is some of all
some_front : (P : meant.Atom → Type 0) (us vs : List meant.Atom) → SomeOf P us → SomeOf P (us ++ vs)
some_front P [] vs h = absurd h
some_front P (u ∷ us) vs (inl h) = inl h
some_front P (u ∷ us) vs (inr h) = inr (some_front P us vs h)

-- so is some of the others
some_back : (P : meant.Atom → Type 0) (us vs : List meant.Atom) → SomeOf P vs → SomeOf P (us ++ vs)
some_back P [] vs h = h
some_back P (u ∷ us) vs h = inr (some_back P us vs h)

-- some of all is one of the first ones or of the others
some_either : (P : meant.Atom → Type 0) (us vs : List meant.Atom) → SomeOf P (us ++ vs) → SomeOf P us ⊎ SomeOf P vs
some_either P [] vs h = inr h
some_either P (u ∷ us) vs (inl h) = inl (inl h)
some_either P (u ∷ us) vs (inr h) = ⊎_elim (λ s. inl (inr s)) (λ s. inr s) (some_either P us vs h)

-- a name of the turned list is one of the list
pub turned_name : (us vs : List Atom) (fs : Trees) (y : ℕ) → IsNameOf (map atom_of (vs ++ us)) fs y → IsNameOf (map atom_of (us ++ vs)) fs y
turned_name us vs fs y (inr s) = inr s
turned_name us vs fs y (inl s) =
    let P = λ (u : meant.Atom). Mentions u y in
    let k = subst (SomeOf P) (map-append atom_of vs us) s in
    inl (subst (SomeOf P) (sym (map-append atom_of us vs)) (⊎_elim (some_back P (map atom_of us) (map atom_of vs)) (some_front P (map atom_of us) (map atom_of vs)) (some_either P (map atom_of vs) (map atom_of us) k)))

-- it is true where the list is
pub turned_true : (c : Context) (us vs : List Atom) (fs : Trees) (p : Point ℕ) → TrueAt c (And (listed (map atom_of (us ++ vs)) fs)) p → TrueAt c (And (listed (map atom_of (vs ++ us)) fs)) p
turned_true c us vs fs p t =
    let h = (listed_true c (map atom_of (us ++ vs)) fs p).0 t in
    (listed_true c (map atom_of (vs ++ us)) fs p).1 (turned_each (λ (u : meant.Atom). Says u p) us vs h.0, h.1)
