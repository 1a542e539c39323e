-- Some element and each element of a list: of joined lists, of images, and of lists without repeats.
use Rattle.std.proofs.Common.{◌≡◌, Bool, true, false, if◌then◌else◌, List, [], ◌∷◌, ◌++◌, map, flat_map, ◌⊎◌, inl, inr, ⊎_elim, subst, refl}
use Rattle.logic_meaning.specs.Formula.{Formula, Formulas, Yes, No, One, Not, And, Or, Impl, Repl, Equiv, Ex, All, none, also}
use Rattle.logic_meaning.specs.Some.{SomeOf, EachOf, Among}
use Rattle.logic_meaning.specs.Every.{Every, EveryOf}
use Rattle.logic_meaning.specs.Atom.{Atom}
use Rattle.logic_meaning.specs.Tree.{Tree}
use Rattle.logic_meaning.specs.Distinct.{without_same, distinct}
use Rattle.logic_meaning.specs.Same.{same_atom}
use Rattle.logic_meaning.specs.Atoms.{atoms_in, atoms_in_all, atoms_of}
use Rattle.formula_laws.proofs.Listed.{some_among, among_some, among_left, among_right, among_append, among_flat_map, flat_map_among, among_distinct, distinct_among}
use Rattle.formula_laws.proofs.Same.{atom_same}

pub some_map : {X : Type 0} (P Q : X → Type 0) (xs : List X) → ((x : X) → P x → Q x) → SomeOf P xs → SomeOf Q xs
some_map P Q xs gives s = let r = some_among P xs s in among_some Q xs r.0 r.1 (gives r.0 r.2)

pub some_gives : {X C : Type 0} (P : X → Type 0) (xs : List X) → ((x : X) → P x → C) → SomeOf P xs → C
some_gives P xs gives s = let r = some_among P xs s in gives r.0 r.2

pub some_left : {X : Type 0} (P : X → Type 0) (xs ys : List X) → SomeOf P xs → SomeOf P (xs ++ ys)
some_left P xs ys s = let r = some_among P xs s in among_some P (xs ++ ys) r.0 (among_left xs ys r.0 r.1) r.2

pub some_right : {X : Type 0} (P : X → Type 0) (xs ys : List X) → SomeOf P ys → SomeOf P (xs ++ ys)
some_right P xs ys s = let r = some_among P ys s in among_some P (xs ++ ys) r.0 (among_right xs ys r.0 r.1) r.2

pub some_either : {X : Type 0} (P : X → Type 0) (xs ys : List X) → SomeOf P (xs ++ ys) → SomeOf P xs ⊎ SomeOf P ys
some_either P xs ys s =
    let r = some_among P (xs ++ ys) s in
    ⊎_elim (λ m. inl (among_some P xs r.0 m r.2)) (λ m. inr (among_some P ys r.0 m r.2)) (among_append xs ys r.0 r.1)

pub some_mapped : {X Y : Type 0} (P : Y → Type 0) (g : X → Y) (xs : List X) → SomeOf (λ x. P (g x)) xs → SomeOf P (map g xs)
some_mapped P g [] s = absurd s
some_mapped P g (x ∷ xs) (inl here) = inl here
some_mapped P g (x ∷ xs) (inr there) = inr (some_mapped P g xs there)

pub some_of_mapped : {X Y : Type 0} (P : Y → Type 0) (g : X → Y) (xs : List X) → SomeOf P (map g xs) → SomeOf (λ x. P (g x)) xs
some_of_mapped P g [] s = s
some_of_mapped P g (x ∷ xs) (inl here) = inl here
some_of_mapped P g (x ∷ xs) (inr there) = inr (some_of_mapped P g xs there)

pub some_flat_map : {X Y : Type 0} (P : Y → Type 0) (g : X → List Y) (xs : List X) → SomeOf (λ x. SomeOf P (g x)) xs → SomeOf P (flat_map g xs)
some_flat_map P g xs s =
    let r = some_among (λ x. SomeOf P (g x)) xs s in
    let q = some_among P (g r.0) r.2 in
    among_some P (flat_map g xs) q.0 (among_flat_map g xs r.0 q.0 r.1 q.1) q.2

pub some_of_flat_map : {X Y : Type 0} (P : Y → Type 0) (g : X → List Y) (xs : List X) → SomeOf P (flat_map g xs) → SomeOf (λ x. SomeOf P (g x)) xs
some_of_flat_map P g xs s =
    let r = some_among P (flat_map g xs) s in
    let q = flat_map_among g xs r.0 r.1 in
    among_some (λ x. SomeOf P (g x)) xs q.0 q.1 (among_some P (g q.0) r.0 q.2 r.2)

pub some_distinct : {X : Type 0} (same : X → X → Bool) (sound : (x y : X) → same x y ≡ true → x ≡ y) (P : X → Type 0) (xs : List X) →
    SomeOf P xs → SomeOf P (distinct same xs)
some_distinct same sound P xs s = let r = some_among P xs s in among_some P (distinct same xs) r.0 (among_distinct same sound xs r.0 r.1) r.2

pub some_of_distinct : {X : Type 0} (same : X → X → Bool) (P : X → Type 0) (xs : List X) → SomeOf P (distinct same xs) → SomeOf P xs
some_of_distinct same P xs s = let r = some_among P (distinct same xs) s in among_some P xs r.0 (distinct_among same xs r.0 r.1) r.2

pub each_left : {X : Type 0} (P : X → Type 0) (xs ys : List X) → EachOf P (xs ++ ys) → EachOf P xs
each_left P [] ys e = tt
each_left P (x ∷ xs) ys e = (e.0, each_left P xs ys e.1)

pub each_right : {X : Type 0} (P : X → Type 0) (xs ys : List X) → EachOf P (xs ++ ys) → EachOf P ys
each_right P [] ys e = e
each_right P (x ∷ xs) ys e = each_right P xs ys e.1

module _ {X : Type 0} (same : X → X → Bool) (equal : (x y : X) → same x y ≡ true → x ≡ y) (P : X → Type 0) where
  each_others : (x : X) (ys : List X) → P x → EachOf P (without_same same x ys) → EachOf P ys
  each_others x [] here e = tt
  each_others x (y ∷ ys) here e = go (same x y) refl (each_others x ys here) e
    where
      go : (b : Bool) → same x y ≡ b → (EachOf P (without_same same x ys) → EachOf P ys) →
          EachOf P (if b then without_same same x ys else y ∷ without_same same x ys) → EachOf P (y ∷ ys)
      go true e rest each = (subst P (equal x y e) here, rest each)
      go false e rest each = (each.0, rest each.1)

  -- what each element has once, each has
  pub each_of_distinct : (xs : List X) → EachOf P (distinct same xs) → EachOf P xs
  each_of_distinct [] e = tt
  each_of_distinct (x ∷ xs) e = (e.0, each_of_distinct xs (each_others x (distinct same xs) e.0 e.1))

module _ {A N : Type 0} (P : A → Type 0) where
  mutual
    -- what each listed atom has, each atom of the formula has
    pub every_listed : (f : Formula A N) → EachOf P (atoms_in f) → Every P f
    every_listed Yes e = tt
    every_listed No e = tt
    every_listed (One a) e = e.0
    every_listed (Not f) e = every_listed f e
    every_listed (And fs) e = every_listed_of fs e
    every_listed (Or fs) e = every_listed_of fs e
    every_listed (Impl f g) e = (every_listed f (each_left P (atoms_in f) (atoms_in g) e), every_listed g (each_right P (atoms_in f) (atoms_in g) e))
    every_listed (Repl f g) e = (every_listed f (each_left P (atoms_in f) (atoms_in g) e), every_listed g (each_right P (atoms_in f) (atoms_in g) e))
    every_listed (Equiv f g) e = (every_listed f (each_left P (atoms_in f) (atoms_in g) e), every_listed g (each_right P (atoms_in f) (atoms_in g) e))
    every_listed (Ex x f) e = every_listed f e
    every_listed (All x f) e = every_listed f e

    every_listed_of : (fs : Formulas A N) → EachOf P (atoms_in_all fs) → EveryOf P fs
    every_listed_of none e = tt
    every_listed_of (also f fs) e = (every_listed f (each_left P (atoms_in f) (atoms_in_all fs) e), every_listed_of fs (each_right P (atoms_in f) (atoms_in_all fs) e))

-- what each atom of the list has, each atom of the tree has
pub every_of_atoms : (P : Atom → Type 0) (f : Tree) → EachOf P (atoms_of f) → Every P f
every_of_atoms P f e = every_listed P f (each_of_distinct same_atom atom_same P (atoms_in f) e)

pub each_append : {X : Type 0} (P : X → Type 0) (xs ys : List X) → EachOf P xs → EachOf P ys → EachOf P (xs ++ ys)
each_append P [] ys e f = f
each_append P (x ∷ xs) ys e f = (e.0, each_append P xs ys e.1 f)

each_without : {X : Type 0} (same : X → X → Bool) (P : X → Type 0) (x : X) (ys : List X) → EachOf P ys → EachOf P (without_same same x ys)
each_without same P x [] e = tt
each_without same P x (y ∷ ys) e = go (same x y) e.0 (each_without same P x ys e.1)
  where
    go : (b : Bool) → P y → EachOf P (without_same same x ys) → EachOf P (if b then without_same same x ys else y ∷ without_same same x ys)
    go true here rest = rest
    go false here rest = (here, rest)

-- what each element has, each has once
pub each_distinct : {X : Type 0} (same : X → X → Bool) (P : X → Type 0) (xs : List X) → EachOf P xs → EachOf P (distinct same xs)
each_distinct same P [] e = tt
each_distinct same P (x ∷ xs) e = (e.0, each_without same P x (distinct same xs) (each_distinct same P xs e.1))

module _ {A N : Type 0} (P : A → Type 0) where
  mutual
    -- what each atom of the formula has, each listed atom has
    pub listed_every : (f : Formula A N) → Every P f → EachOf P (atoms_in f)
    listed_every Yes e = tt
    listed_every No e = tt
    listed_every (One a) e = (e, tt)
    listed_every (Not f) e = listed_every f e
    listed_every (And fs) e = listed_every_of fs e
    listed_every (Or fs) e = listed_every_of fs e
    listed_every (Impl f g) e = each_append P (atoms_in f) (atoms_in g) (listed_every f e.0) (listed_every g e.1)
    listed_every (Repl f g) e = each_append P (atoms_in f) (atoms_in g) (listed_every f e.0) (listed_every g e.1)
    listed_every (Equiv f g) e = each_append P (atoms_in f) (atoms_in g) (listed_every f e.0) (listed_every g e.1)
    listed_every (Ex x f) e = listed_every f e
    listed_every (All x f) e = listed_every f e

    listed_every_of : (fs : Formulas A N) → EveryOf P fs → EachOf P (atoms_in_all fs)
    listed_every_of none e = tt
    listed_every_of (also f fs) e = each_append P (atoms_in f) (atoms_in_all fs) (listed_every f e.0) (listed_every_of fs e.1)

-- what each atom of the tree has, each of its list has
pub atoms_of_every : (P : Atom → Type 0) (f : Tree) → Every P f → EachOf P (atoms_of f)
atoms_of_every P f e = each_distinct same_atom P (atoms_in f) (listed_every P f e)

pub each_map : {X : Type 0} (P Q : X → Type 0) → ((x : X) → P x → Q x) → (xs : List X) → EachOf P xs → EachOf Q xs
each_map P Q gives [] e = tt
each_map P Q gives (x ∷ xs) e = (gives x e.0, each_map P Q gives xs e.1)

pub each_mapped : {X Y : Type 0} (P : Y → Type 0) (g : X → Y) (xs : List X) → ((x : X) → P (g x)) → EachOf P (map g xs)
each_mapped P g [] all = tt
each_mapped P g (x ∷ xs) all = (all x, each_mapped P g xs all)

pub each_flat_map : {X Y : Type 0} (P : Y → Type 0) (g : X → List Y) (xs : List X) → ((x : X) → EachOf P (g x)) → EachOf P (flat_map g xs)
each_flat_map P g [] all = tt
each_flat_map P g (x ∷ xs) all = each_append P (g x) (flat_map g xs) (all x) (each_flat_map P g xs all)

-- what each element has, an element has
pub each_among : {X : Type 0} (P : X → Type 0) (xs : List X) (s : X) → EachOf P xs → Among xs s → P s
each_among P [] s e m = absurd m
each_among P (x ∷ xs) s e (inl is) = subst P is e.0
each_among P (x ∷ xs) s e (inr m) = each_among P xs s e.1 m
