-- Elements of lists: of joined lists, and of lists without repeats.
use Rattle.std.proofs.Common.{◌≡◌, Bool, true, false, List, [], ◌∷◌, ◌++◌, sym, ◌∙◌, subst, refl, ◌⊎◌, inl, inr, ⊎_elim, if◌then◌else◌, flat_map}
use Rattle.logic_meaning.specs.Some.{SomeOf, Among}
use Rattle.logic_meaning.specs.Distinct.{without_same, distinct}
use Rattle.formula_laws.specs.StandsOnce.{StandsOnce}

-- what some element has, an element has
pub some_among : {X : Type 0} (P : X → Type 0) (xs : List X) → SomeOf P xs → (x : X) × Among xs x × P x
some_among P [] h = absurd h
some_among P (x ∷ xs) (inl h) = (x, inl refl, h)
some_among P (x ∷ xs) (inr h) = let r = some_among P xs h in (r.0, inr r.1, r.2)

pub among_some : {X : Type 0} (P : X → Type 0) (xs : List X) (x : X) → Among xs x → P x → SomeOf P xs
among_some P [] x m h = absurd m
among_some P (y ∷ ys) x (inl e) h = inl (subst P (sym e) h)
among_some P (y ∷ ys) x (inr m) h = inr (among_some P ys x m h)

pub among_left : {X : Type 0} (xs ys : List X) (s : X) → Among xs s → Among (xs ++ ys) s
among_left [] ys s h = absurd h
among_left (x ∷ xs) ys s (inl e) = inl e
among_left (x ∷ xs) ys s (inr h) = inr (among_left xs ys s h)

pub among_right : {X : Type 0} (xs ys : List X) (s : X) → Among ys s → Among (xs ++ ys) s
among_right [] ys s h = h
among_right (x ∷ xs) ys s h = inr (among_right xs ys s h)

pub among_append : {X : Type 0} (xs ys : List X) (s : X) → Among (xs ++ ys) s → Among xs s ⊎ Among ys s
among_append [] ys s h = inr h
among_append (x ∷ xs) ys s (inl e) = inl (inl e)
among_append (x ∷ xs) ys s (inr h) = ⊎_elim (λ a. inl (inr a)) (λ b. inr b) (among_append xs ys s h)

pub among_flat_map : {X Y : Type 0} (f : X → List Y) (xs : List X) (x : X) (y : Y) → Among xs x → Among (f x) y → Among (flat_map f xs) y
among_flat_map f [] x y m h = absurd m
among_flat_map f (z ∷ zs) x y (inl e) h = among_left (f z) (flat_map f zs) y (subst (λ w. Among (f w) y) (sym e) h)
among_flat_map f (z ∷ zs) x y (inr m) h = among_right (f z) (flat_map f zs) y (among_flat_map f zs x y m h)

pub flat_map_among : {X Y : Type 0} (f : X → List Y) (xs : List X) (y : Y) → Among (flat_map f xs) y → (x : X) × Among xs x × Among (f x) y
flat_map_among f [] y h = absurd h
flat_map_among f (z ∷ zs) y h = go (among_append (f z) (flat_map f zs) y h) (flat_map_among f zs y)
  where
    go : Among (f z) y ⊎ Among (flat_map f zs) y → (Among (flat_map f zs) y → (x : _) × Among zs x × Among (f x) y) → (x : _) × Among (z ∷ zs) x × Among (f x) y
    go (inl a) r = (z, inl refl, a)
    go (inr b) r = let q = r b in (q.0, inr q.1, q.2)

module _ {X : Type 0} (same : X → X → Bool) where
  without_among : (x : X) (ys : List X) (s : X) → Among (without_same same x ys) s → Among ys s
  without_among x [] s h = h
  without_among x (y ∷ ys) s h = go (same x y) h (without_among x ys s)
    where
      go : (b : Bool) → Among (if b then without_same same x ys else y ∷ without_same same x ys) s → (Among (without_same same x ys) s → Among ys s) → Among (y ∷ ys) s
      go true h r = inr (r h)
      go false (inl e) r = inl e
      go false (inr h) r = inr (r h)

  -- no element is new
  pub distinct_among : (xs : List X) (s : X) → Among (distinct same xs) s → Among xs s
  distinct_among [] s h = h
  distinct_among (x ∷ xs) s (inl e) = inl e
  distinct_among (x ∷ xs) s (inr h) = inr (distinct_among xs s (without_among x (distinct same xs) s h))

  module _ (sound : (x y : X) → same x y ≡ true → x ≡ y) where
    among_without : (x : X) (ys : List X) (s : X) → Among ys s → (x ≡ s) ⊎ Among (without_same same x ys) s
    among_without x [] s h = absurd h
    among_without x (y ∷ ys) s h = go (same x y) refl h (among_without x ys s)
      where
        go : (b : Bool) → same x y ≡ b → Among (y ∷ ys) s → (Among ys s → (x ≡ s) ⊎ Among (without_same same x ys) s) → (x ≡ s) ⊎ Among (if b then without_same same x ys else y ∷ without_same same x ys) s
        go true e (inl i) r = inl (sound x y e ∙ i)
        go true e (inr h) r = r h
        go false e (inl i) r = inr (inl i)
        go false e (inr h) r = ⊎_elim (λ i. inl i) (λ a. inr (inr a)) (r h)

    -- no element is lost
    pub among_distinct : (xs : List X) (s : X) → Among xs s → Among (distinct same xs) s
    among_distinct [] s h = h
    among_distinct (x ∷ xs) s (inl e) = inl e
    among_distinct (x ∷ xs) s (inr h) = ⊎_elim (λ i. inl i) (λ a. inr a) (among_without x (distinct same xs) s (among_distinct xs s h))

-- ---- each element once

module _ {X : Type 0} (same : X → X → Bool) (alike : (x : X) → same x x ≡ true) where
  gone : (x : X) (ys : List X) → ¬ (SomeOf (λ y. x ≡ y) (without_same same x ys))
  gone x [] h = h
  gone x (y ∷ ys) h = go (same x y) refl h (gone x ys)
    where
      go : (b : Bool) → same x y ≡ b → SomeOf (λ z. x ≡ z) (if b then without_same same x ys else y ∷ without_same same x ys) → ¬ (SomeOf (λ z. x ≡ z) (without_same same x ys)) → ⊥
      go true e h n = n h
      go false e (inl i) n = absurd (cc (subst (λ z. same x z ≡ true) i (alike x), e))
      go false e (inr h) n = n h

  fewer : (x z : X) (ys : List X) → SomeOf (λ y. z ≡ y) (without_same same x ys) → SomeOf (λ y. z ≡ y) ys
  fewer x z [] h = h
  fewer x z (y ∷ ys) h = go (same x y) h (fewer x z ys)
    where
      go : (b : Bool) → SomeOf (λ w. z ≡ w) (if b then without_same same x ys else y ∷ without_same same x ys) → (SomeOf (λ w. z ≡ w) (without_same same x ys) → SomeOf (λ w. z ≡ w) ys) → SomeOf (λ w. z ≡ w) (y ∷ ys)
      go true h r = inr (r h)
      go false (inl e) r = inl e
      go false (inr h) r = inr (r h)

  still_once : (x : X) (ys : List X) → StandsOnce ys → StandsOnce (without_same same x ys)
  still_once x [] h = h
  still_once x (y ∷ ys) h = go (same x y) (still_once x ys h.1)
    where
      go : (b : Bool) → StandsOnce (without_same same x ys) → StandsOnce (if b then without_same same x ys else y ∷ without_same same x ys)
      go true r = r
      go false r = (λ m. h.0 (fewer x y ys m), r)

  pub distinct_once : (xs : List X) → StandsOnce (distinct same xs)
  distinct_once [] = tt
  distinct_once (x ∷ xs) = (gone x (distinct same xs), still_once x (distinct same xs) (distinct_once xs))
