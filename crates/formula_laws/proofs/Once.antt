-- Lists without repeats of joined images: repeats among the originals need not be dropped first.
use Rattle.std.proofs.Common.{◌≡◌, Bool, true, false, List, [], ◌∷◌, ◌++◌, flat_map, ap, ap₂, sym, ◌∙◌, subst, refl, ◌⊎◌, inl, inr, ⊎_elim, if◌then◌else◌}
use Rattle.logic_meaning.specs.Some.{Among}
use Rattle.logic_meaning.specs.Distinct.{without_same, distinct}
use Rattle.formula_laws.proofs.Listed.{distinct_among}

module _ {X : Type 0} (same : X → X → Bool) where
  -- ---- without one

  pub without_swap : (x y : X) (zs : List X) → without_same same x (without_same same y zs) ≡ without_same same y (without_same same x zs)
  without_swap x y [] = refl
  without_swap x y (z ∷ zs) = go (same x z) refl (same y z) refl (without_swap x y zs)
    where
      go : (b : Bool) → same x z ≡ b → (c : Bool) → same y z ≡ c → without_same same x (without_same same y zs) ≡ without_same same y (without_same same x zs) →
          without_same same x (if c then without_same same y zs else z ∷ without_same same y zs) ≡ without_same same y (if b then without_same same x zs else z ∷ without_same same x zs)
      go true e true f h = h
      go true e false f h = rw e h
      go false e true f h = rw f h
      go false e false f h = rw e (rw f (ap (λ ws. z ∷ ws) h))

  pub without_twice : (x : X) (zs : List X) → without_same same x (without_same same x zs) ≡ without_same same x zs
  without_twice x [] = refl
  without_twice x (z ∷ zs) = go (same x z) refl (without_twice x zs)
    where
      go : (b : Bool) → same x z ≡ b → without_same same x (without_same same x zs) ≡ without_same same x zs →
          without_same same x (if b then without_same same x zs else z ∷ without_same same x zs) ≡ (if b then without_same same x zs else z ∷ without_same same x zs)
      go true e h = h
      go false e h = rw e (ap (λ ws. z ∷ ws) h)

  without_append : (x : X) (ys zs : List X) → without_same same x (ys ++ zs) ≡ without_same same x ys ++ without_same same x zs
  without_append x [] zs = refl
  without_append x (y ∷ ys) zs = go (same x y) (without_append x ys zs)
    where
      go : (b : Bool) → without_same same x (ys ++ zs) ≡ without_same same x ys ++ without_same same x zs →
          (if b then without_same same x (ys ++ zs) else y ∷ without_same same x (ys ++ zs)) ≡ (if b then without_same same x ys else y ∷ without_same same x ys) ++ without_same same x zs
      go true h = h
      go false h = ap (λ ws. y ∷ ws) h

  -- ---- without all of a list

  -- the list without what is the same as an element of the first
  abbrev pub without_all : List X → List X → List X
  without_all [] zs = zs
  without_all (x ∷ xs) zs = without_same same x (without_all xs zs)

  pub all_without : (xs : List X) (y : X) (zs : List X) → without_all xs (without_same same y zs) ≡ without_same same y (without_all xs zs)
  all_without [] y zs = refl
  all_without (x ∷ xs) y zs = ap (without_same same x) (all_without xs y zs) ∙ without_swap x y (without_all xs zs)

  all_swap : (xs ys zs : List X) → without_all xs (without_all ys zs) ≡ without_all ys (without_all xs zs)
  all_swap [] ys zs = refl
  all_swap (x ∷ xs) ys zs = ap (without_same same x) (all_swap xs ys zs) ∙ sym (all_without ys x (without_all xs zs))

  all_twice : (xs zs : List X) → without_all xs (without_all xs zs) ≡ without_all xs zs
  all_twice [] zs = refl
  all_twice (x ∷ xs) zs =
      ap (without_same same x) (all_without xs x (without_all xs zs)) ∙ without_twice x (without_all xs (without_all xs zs)) ∙ ap (without_same same x) (all_twice xs zs)

  all_append : (xs ys zs : List X) → without_all xs (ys ++ zs) ≡ without_all xs ys ++ without_all xs zs
  all_append [] ys zs = refl
  all_append (x ∷ xs) ys zs = ap (without_same same x) (all_append xs ys zs) ∙ without_append x (without_all xs ys) (without_all xs zs)

  pub all_nothing : (xs : List X) → without_all xs [] ≡ []
  all_nothing [] = refl
  all_nothing (x ∷ xs) = ap (without_same same x) (all_nothing xs)

module _ {X : Type 0} (same : X → X → Bool) (sound : (x y : X) → same x y ≡ true → x ≡ y) (alike : (x : X) → same x x ≡ true) where
  without_cons : (x z : X) (zs : List X) → (x ≡ z → without_same same x (z ∷ zs) ≡ without_same same x zs) × (same x z ≡ false → without_same same x (z ∷ zs) ≡ z ∷ without_same same x zs)
  without_cons x z zs = (λ e. let s : same x z ≡ true = subst (λ w. same x w ≡ true) e (alike x) in rw s refl, λ e. rw e refl)

  -- an element of the list goes
  all_cons : (xs : List X) (z : X) (zs : List X) → (without_all same xs (z ∷ zs) ≡ z ∷ without_all same xs zs) ⊎ (without_all same xs (z ∷ zs) ≡ without_all same xs zs)
  all_cons [] z zs = inl refl
  all_cons (x ∷ xs) z zs = ⊎_elim (λ e. go (same x z) refl e) (λ e. inr (ap (without_same same x) e)) (all_cons xs z zs)
    where
      go : (b : Bool) → same x z ≡ b → without_all same xs (z ∷ zs) ≡ z ∷ without_all same xs zs →
          (without_same same x (without_all same xs (z ∷ zs)) ≡ z ∷ without_same same x (without_all same xs zs)) ⊎ (without_same same x (without_all same xs (z ∷ zs)) ≡ without_same same x (without_all same xs zs))
      go true s e = inr (ap (without_same same x) e ∙ (without_cons x z (without_all same xs zs)).0 (sound x z s))
      go false s e = inl (ap (without_same same x) e ∙ (without_cons x z (without_all same xs zs)).1 s)

  all_among : (xs : List X) (z : X) (zs : List X) → Among xs z → without_all same xs (z ∷ zs) ≡ without_all same xs zs
  all_among [] z zs m = absurd m
  all_among (x ∷ xs) z zs (inl e) =
      ⊎_elim (λ c. ap (without_same same x) c ∙ (without_cons x z (without_all same xs zs)).0 e) (λ c. ap (without_same same x) c) (all_cons xs z zs)
  all_among (x ∷ xs) z zs (inr m) = ap (without_same same x) (all_among xs z zs m)

  all_gone : (xs zs : List X) → ((z : X) → Among zs z → Among xs z) → without_all same xs zs ≡ []
  all_gone xs [] h = all_nothing same xs
  all_gone xs (z ∷ zs) h = all_among xs z zs (h z (inl refl)) ∙ all_gone xs zs (λ w m. h w (inr m))

  -- ---- lists without repeats

  distinct_append : (xs ys : List X) → distinct same (xs ++ ys) ≡ distinct same xs ++ without_all same xs (distinct same ys)
  distinct_append [] ys = refl
  distinct_append (x ∷ xs) ys = ap (λ ws. x ∷ ws) (ap (without_same same x) (distinct_append xs ys) ∙ without_append same x (distinct same xs) (without_all same xs (distinct same ys)))

  -- what a list and then another gives, without the list
  all_distinct : (xs ys : List X) → without_all same xs (distinct same (xs ++ ys)) ≡ without_all same xs (distinct same ys)
  all_distinct xs ys =
      ap (without_all same xs) (distinct_append xs ys)
      ∙ all_append same xs (distinct same xs) (without_all same xs (distinct same ys))
      ∙ ap₂ (λ us vs. us ++ vs) (all_gone xs (distinct same xs) (distinct_among same xs)) (all_twice same xs (distinct same ys))

  all_past : (xs ys zs : List X) → without_all same xs (distinct same (ys ++ zs)) ≡ without_all same xs (distinct same ys) ++ without_all same ys (without_all same xs (distinct same zs))
  all_past xs ys zs =
      ap (without_all same xs) (distinct_append ys zs)
      ∙ all_append same xs (distinct same ys) (without_all same ys (distinct same zs))
      ∙ ap (λ us. without_all same xs (distinct same ys) ++ us) (all_swap same xs ys (distinct same zs))

  module _ {Y : Type 0} (like : Y → Y → Bool) (like_sound : (x y : Y) → like x y ≡ true → x ≡ y) (g : Y → List X) where
    -- after the images of y another y gives nothing new
    once_more : (y : Y) (zs : List Y) → without_all same (g y) (distinct same (flat_map g (without_same like y zs))) ≡ without_all same (g y) (distinct same (flat_map g zs))
    once_more y [] = refl
    once_more y (z ∷ zs) = go (like y z) refl (once_more y zs)
      where
        go : (b : Bool) → like y z ≡ b → without_all same (g y) (distinct same (flat_map g (without_same like y zs))) ≡ without_all same (g y) (distinct same (flat_map g zs)) →
            without_all same (g y) (distinct same (flat_map g (if b then without_same like y zs else z ∷ without_same like y zs))) ≡ without_all same (g y) (distinct same (g z ++ flat_map g zs))
        go true e h = subst (λ (w : Y). without_all same (g y) (distinct same (flat_map g (without_same like y zs))) ≡ without_all same (g y) (distinct same (g w ++ flat_map g zs))) (like_sound y z e) (h ∙ sym (all_distinct (g y) (flat_map g zs)))
        go false e h =
            all_past (g y) (g z) (flat_map g (without_same like y zs))
            ∙ ap (λ us. without_all same (g y) (distinct same (g z)) ++ without_all same (g z) us) h
            ∙ sym (all_past (g y) (g z) (flat_map g zs))

    -- repeats among the originals need not be dropped first
    pub once_is_enough : (ys : List Y) → distinct same (flat_map g (distinct like ys)) ≡ distinct same (flat_map g ys)
    once_is_enough [] = refl
    once_is_enough (y ∷ ys) =
        distinct_append (g y) (flat_map g (without_same like y (distinct like ys)))
        ∙ ap (λ us. distinct same (g y) ++ us) (once_more y (distinct like ys) ∙ ap (without_all same (g y)) (once_is_enough ys))
        ∙ sym (distinct_append (g y) (flat_map g ys))
