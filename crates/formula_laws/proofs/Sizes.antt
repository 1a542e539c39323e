-- Sizes, the equality test and the free names of formulas.
use Rattle.std.proofs.Common.{◌≡◌, ℕ, suc, ◌+◌, ◌≤◌, ◌<◌, Bool, true, false, List, [], ◌∷◌, ◌++◌, length, ap, ap₂, sym, ◌∙◌, subst, refl, arith, ◌⊎◌, inl, inr, ⊎_elim, ◌↔◌, if◌then◌else◌}
use Rattle.logic_meaning.specs.Formula.{Formula, Formulas, Yes, No, One, Not, And, Or, Impl, Repl, Equiv, Ex, All, none, also}
use Rattle.logic_meaning.specs.Some.{Among}
use Rattle.logic_meaning.specs.Every.{Free, FreeInSome}
use Rattle.logic_meaning.specs.Distinct.{without_same, distinct}
use Rattle.logic_meaning.specs.Sizes.{nodes, all_nodes, height, greatest_height, subtrees, all_subtrees, same_formula, same_formulas, distinct_count, free_places, all_free_places, free_names}
use Rattle.formula_laws.proofs.Iff.{both_ways, either_iff}
use Rattle.formula_laws.proofs.Listed.{among_left, among_right, among_append, distinct_among, among_distinct}
use Rattle.formula_laws.proofs.Same.{and_left, and_right, both_true}

-- ---- sizes

length_append : {X : Type 0} (xs ys : List X) → length (xs ++ ys) ≡ length xs + length ys
length_append [] ys = omega arith
length_append (x ∷ xs) ys = let h = length_append xs ys in omega arith

two_parts : {X : Type 0} (xs ys : List X) (m n : ℕ) → length xs ≡ m → length ys ≡ n → length (xs ++ ys) ≡ m + n
two_parts xs ys m n e f = let h = length_append xs ys in omega arith

module _ {A N : Type 0} where
  mutual
    -- as many subtrees, with repeats, as nodes
    pub subtrees_counted : (f : Formula A N) → length (subtrees f) ≡ nodes f
    subtrees_counted Yes = refl
    subtrees_counted No = refl
    subtrees_counted (One a) = refl
    subtrees_counted (Not f) = ap suc (subtrees_counted f)
    subtrees_counted (And fs) = ap suc (all_subtrees_counted fs)
    subtrees_counted (Or fs) = ap suc (all_subtrees_counted fs)
    subtrees_counted (Impl f g) = ap suc (two_parts (subtrees f) (subtrees g) _ _ (subtrees_counted f) (subtrees_counted g))
    subtrees_counted (Repl f g) = ap suc (two_parts (subtrees f) (subtrees g) _ _ (subtrees_counted f) (subtrees_counted g))
    subtrees_counted (Equiv f g) = ap suc (two_parts (subtrees f) (subtrees g) _ _ (subtrees_counted f) (subtrees_counted g))
    subtrees_counted (Ex x f) = ap suc (subtrees_counted f)
    subtrees_counted (All x f) = ap suc (subtrees_counted f)

    all_subtrees_counted : (fs : Formulas A N) → length (all_subtrees fs) ≡ all_nodes fs
    all_subtrees_counted none = refl
    all_subtrees_counted (also f fs) = two_parts (subtrees f) (all_subtrees fs) _ _ (subtrees_counted f) (all_subtrees_counted fs)

  mutual
    pub height_within : (f : Formula A N) → height f ≤ nodes f
    height_within Yes = omega arith
    height_within No = omega arith
    height_within (One a) = omega arith
    height_within (Not f) = let h = height_within f in omega arith
    height_within (And fs) = let h = greatest_height_within fs in omega arith
    height_within (Or fs) = let h = greatest_height_within fs in omega arith
    height_within (Impl f g) = let h = height_within f in let i = height_within g in omega arith
    height_within (Repl f g) = let h = height_within f in let i = height_within g in omega arith
    height_within (Equiv f g) = let h = height_within f in let i = height_within g in omega arith
    height_within (Ex x f) = let h = height_within f in omega arith
    height_within (All x f) = let h = height_within f in omega arith

    greatest_height_within : (fs : Formulas A N) → greatest_height fs ≤ all_nodes fs
    greatest_height_within none = omega arith
    greatest_height_within (also f fs) = let h = height_within f in let i = greatest_height_within fs in omega arith

  pub nodes_positive : (f : Formula A N) → 0 < nodes f
  nodes_positive Yes = omega arith
  nodes_positive No = omega arith
  nodes_positive (One a) = omega arith
  nodes_positive (Not f) = omega arith
  nodes_positive (And fs) = omega arith
  nodes_positive (Or fs) = omega arith
  nodes_positive (Impl f g) = omega arith
  nodes_positive (Repl f g) = omega arith
  nodes_positive (Equiv f g) = omega arith
  nodes_positive (Ex x f) = omega arith
  nodes_positive (All x f) = omega arith

without_shorter : {X : Type 0} (same : X → X → Bool) (x : X) (ys : List X) → length (without_same same x ys) ≤ length ys
without_shorter same x [] = omega arith
without_shorter same x (y ∷ ys) = go (same x y) (without_shorter same x ys)
  where
    go : (b : Bool) → length (without_same same x ys) ≤ length ys → length (if b then without_same same x ys else y ∷ without_same same x ys) ≤ suc (length ys)
    go true h = omega arith
    go false h = omega arith

pub distinct_shorter : {X : Type 0} (same : X → X → Bool) (xs : List X) → length (distinct same xs) ≤ length xs
distinct_shorter same [] = omega arith
distinct_shorter same (x ∷ xs) = let h = without_shorter same x (distinct same xs) in let i = distinct_shorter same xs in omega arith

module _ {A N : Type 0} (alike : A → A → Bool) (same : N → N → Bool) where
  pub distinct_count_within : (f : Formula A N) → distinct_count alike same f ≤ nodes f
  distinct_count_within f = let h = distinct_shorter (same_formula alike same) (subtrees f) in let i = subtrees_counted f in omega arith

  -- ---- the equality test

  module _ (alike_is : (a b : A) → alike a b ≡ true → a ≡ b) (same_is : (x y : N) → same x y ≡ true → x ≡ y) where
    mutual
      pub formula_same : (f g : Formula A N) → same_formula alike same f g ≡ true → f ≡ g
      formula_same Yes Yes e = refl
      formula_same No No e = refl
      formula_same (One a) (One b) e = ap One (alike_is a b e)
      formula_same (Not f) (Not g) e = ap Not (formula_same f g e)
      formula_same (And fs) (And gs) e = ap And (formulas_same fs gs e)
      formula_same (Or fs) (Or gs) e = ap Or (formulas_same fs gs e)
      formula_same (Impl f g) (Impl h i) e = ap₂ Impl (formula_same f h (and_left (same_formula alike same f h) _ e)) (formula_same g i (and_right (same_formula alike same f h) _ e))
      formula_same (Repl f g) (Repl h i) e = ap₂ Repl (formula_same f h (and_left (same_formula alike same f h) _ e)) (formula_same g i (and_right (same_formula alike same f h) _ e))
      formula_same (Equiv f g) (Equiv h i) e = ap₂ Equiv (formula_same f h (and_left (same_formula alike same f h) _ e)) (formula_same g i (and_right (same_formula alike same f h) _ e))
      formula_same (Ex x f) (Ex y g) e = ap₂ Ex (same_is x y (and_left (same x y) _ e)) (formula_same f g (and_right (same x y) _ e))
      formula_same (All x f) (All y g) e = ap₂ All (same_is x y (and_left (same x y) _ e)) (formula_same f g (and_right (same x y) _ e))
      formula_same _ _ e = absurd (cc (e))

      formulas_same : (fs gs : Formulas A N) → same_formulas alike same fs gs ≡ true → fs ≡ gs
      formulas_same none none e = refl
      formulas_same (also f fs) (also g gs) e = ap₂ also (formula_same f g (and_left (same_formula alike same f g) _ e)) (formulas_same fs gs (and_right (same_formula alike same f g) _ e))
      formulas_same _ _ e = absurd (cc (e))

  module _ (alike_self : (a : A) → alike a a ≡ true) (same_self : (x : N) → same x x ≡ true) where
    mutual
      pub formula_alike : (f : Formula A N) → same_formula alike same f f ≡ true
      formula_alike Yes = refl
      formula_alike No = refl
      formula_alike (One a) = alike_self a
      formula_alike (Not f) = formula_alike f
      formula_alike (And fs) = formulas_alike fs
      formula_alike (Or fs) = formulas_alike fs
      formula_alike (Impl f g) = both_true _ _ (formula_alike f) (formula_alike g)
      formula_alike (Repl f g) = both_true _ _ (formula_alike f) (formula_alike g)
      formula_alike (Equiv f g) = both_true _ _ (formula_alike f) (formula_alike g)
      formula_alike (Ex x f) = both_true _ _ (same_self x) (formula_alike f)
      formula_alike (All x f) = both_true _ _ (same_self x) (formula_alike f)

      formulas_alike : (fs : Formulas A N) → same_formulas alike same fs fs ≡ true
      formulas_alike none = refl
      formulas_alike (also f fs) = both_true _ _ (formula_alike f) (formulas_alike fs)

-- ---- free names

among_either : {X : Type 0} (xs ys : List X) (x : X) → Among (xs ++ ys) x ↔ (Among xs x ⊎ Among ys x)
among_either xs ys x = (among_append xs ys x, ⊎_elim (among_left xs ys x) (among_right xs ys x))

module _ {N : Type 0} (same : N → N → Bool) (sound : (x y : N) → same x y ≡ true → x ≡ y) (alike : (x : N) → same x x ≡ true) where
  -- without a name: the other elements
  pub without_is : (y : N) (xs : List N) (x : N) → Among (without_same same y xs) x ↔ (¬ (y ≡ x) × Among xs x)
  without_is y [] x = (λ t. absurd t, λ t. t.1)
  without_is y (z ∷ zs) x = go (same y z) refl (without_is y zs x)
    where
      go : (b : Bool) → same y z ≡ b → Among (without_same same y zs) x ↔ (¬ (y ≡ x) × Among zs x) →
          Among (if b then without_same same y zs else z ∷ without_same same y zs) x ↔ (¬ (y ≡ x) × Among (z ∷ zs) x)
      go true e i = (
        λ t. let u = i.0 t in (u.0, inr u.1),
        λ t. ⊎_elim (λ f. absurd (t.0 (sound y z e ∙ f))) (λ m. i.1 (t.0, m)) t.1,
      )
      go false e i = (
        ⊎_elim (λ f. (λ g. absurd (cc (subst (λ w. same y w ≡ true) (g ∙ sym f) (alike y), e)), inl f)) (λ m. let u = i.0 m in (u.0, inr u.1)),
        λ t. ⊎_elim (λ f. inl f) (λ m. inr (i.1 (t.0, m))) t.1,
      )

  module _ {A : Type 0} (names_of : A → List N) (mentions : A → N → Type 0) (atoms : (a : A) (x : N) → Among (names_of a) x ↔ mentions a x) where
    mutual
      pub free_place_is : (f : Formula A N) (x : N) → Among (free_places names_of same f) x ↔ Free mentions f x
      free_place_is Yes x = (λ t. t, λ t. t)
      free_place_is No x = (λ t. t, λ t. t)
      free_place_is (One a) x = atoms a x
      free_place_is (Not f) x = free_place_is f x
      free_place_is (And fs) x = all_free_place_is fs x
      free_place_is (Or fs) x = all_free_place_is fs x
      free_place_is (Impl f g) x = both_ways (among_either (free_places names_of same f) (free_places names_of same g) x) (either_iff (free_place_is f x) (free_place_is g x))
      free_place_is (Repl f g) x = both_ways (among_either (free_places names_of same f) (free_places names_of same g) x) (either_iff (free_place_is f x) (free_place_is g x))
      free_place_is (Equiv f g) x = both_ways (among_either (free_places names_of same f) (free_places names_of same g) x) (either_iff (free_place_is f x) (free_place_is g x))
      free_place_is (Ex y f) x =
          let i = without_is y (free_places names_of same f) x in let j = free_place_is f x in
          (λ t. let u = i.0 t in (u.0, j.0 u.1), λ t. i.1 (t.0, j.1 t.1))
      free_place_is (All y f) x =
          let i = without_is y (free_places names_of same f) x in let j = free_place_is f x in
          (λ t. let u = i.0 t in (u.0, j.0 u.1), λ t. i.1 (t.0, j.1 t.1))

      all_free_place_is : (fs : Formulas A N) (x : N) → Among (all_free_places names_of same fs) x ↔ FreeInSome mentions fs x
      all_free_place_is none x = (λ t. t, λ t. t)
      all_free_place_is (also f fs) x = both_ways (among_either (free_places names_of same f) (all_free_places names_of same fs) x) (either_iff (free_place_is f x) (all_free_place_is fs x))

    -- the listed names are the free ones
    pub free_name_is : (f : Formula A N) (x : N) → Among (free_names names_of same f) x ↔ Free mentions f x
    free_name_is f x =
        let i = free_place_is f x in
        (λ t. i.0 (distinct_among same (free_places names_of same f) x t), λ t. among_distinct same sound (free_places names_of same f) x (i.1 t))
