-- Lists that are collected over the atoms, and facts of all their elements.
use Rattle.std.proofs.Common.{◌≡◌, ℕ, zero, suc, ◌<◌, ◌≤◌, ◌+◌, true, false, List, [], ◌∷◌, ◌++◌, map, flat_map, take, length, get_or, refl, sym, ap, ◌∙◌, subst, arith, append-nil, length-append}
use Rattle.std.proofs.lemmas.List.{take_more, map-append}
use Rattle.std.proofs.lemmas.Grind.{flat_map-append}
use Rattle.logic_meaning.specs.Some.{EachOf}
use Rattle.logic_meaning.specs.Answer.{Place}
use Rattle.logic_meaning.specs.Overflow.{PlaceWithin}
use Rattle.elimination_theory.proofs.SomeListed.{each_left, each_right, each_append}
use Rattle.logic_meaning.specs.Limits.{each, place_within}
use Rattle.elimination_theory.proofs.WithinTests.{each_tests, place_tests, refuted}

-- joined twice is joined over what the first gives
pub joined_twice : {X Y Z : Type 0} (f : Y → List Z) (g : X → List Y) (xs : List X) → flat_map f (flat_map g xs) ≡ flat_map (λ x. flat_map f (g x)) xs
joined_twice f g [] = refl
joined_twice f g (x ∷ xs) = flat_map-append f (g x) (flat_map g xs) ∙ ap (λ l. flat_map f (g x) ++ l) (joined_twice f g xs)

module _ {A B : Type 0} (k : A → B) (h : B → List Place) where
  images : List A → List Place
  images xs = flat_map h (map k xs)

  pub images_more : (xs : List A) (i : ℕ) (x : A) → i < length xs → x ≡ get_or xs i x → flat_map h (map k (take (i + 1) xs)) ≡ flat_map h (map k (take i xs)) ++ h (k x)
  images_more xs i x lt at =
      ap (λ l. flat_map h (map k l)) (take_more xs i x lt ∙ ap (λ y. take i xs ++ y ∷ []) (sym at))
      ∙ ap (flat_map h) (map-append k (take i xs) (x ∷ []))
      ∙ flat_map-append h (map k (take i xs)) (k x ∷ [])
      ∙ ap (λ l. flat_map h (map k (take i xs)) ++ l) (append-nil (h (k x)))

  -- the images of one element are among those of all
  pub each_of_one : (Q : Place → Type 0) (xs : List A) (i : ℕ) (x : A) → i < length xs → x ≡ get_or xs i x → EachOf Q (flat_map h (map k xs)) → EachOf Q (h (k x))
  each_of_one Q [] i x lt at e = absurd (omega arith)
  each_of_one Q (y ∷ xs) zero x lt at e = subst (λ z. EachOf Q (h (k z))) (sym at) (each_left Q (h (k y)) (flat_map h (map k xs)) e)
  each_of_one Q (y ∷ xs) (suc i) x lt at e = each_of_one Q xs i x (omega arith) at (each_right Q (h (k y)) (flat_map h (map k xs)) e)

  pub length_of_one : (xs : List A) (i : ℕ) (x : A) → i < length xs → x ≡ get_or xs i x → length (h (k x)) ≤ length (flat_map h (map k xs))
  length_of_one [] i x lt at = absurd (omega arith)
  length_of_one (y ∷ xs) zero x lt at = let e = length-append (h (k y)) (flat_map h (map k xs)) in let a = ap (λ z. length (h (k z))) at in omega arith
  length_of_one (y ∷ xs) (suc i) x lt at = let e = length-append (h (k y)) (flat_map h (map k xs)) in let a = length_of_one xs i x (omega arith) at in omega arith

  pub one_fails : (xs : List A) (i : ℕ) (x : A) → i < length xs → x ≡ get_or xs i x → each place_within (h (k x)) ≡ false → each place_within (flat_map h (map k xs)) ≡ false
  one_fails xs i x lt at f =
      refuted (each place_within (flat_map h (map k xs))) (each_tests place_within PlaceWithin place_tests (flat_map h (map k xs)))
      (λ e. let t : each place_within (h (k x)) ≡ true = (each_tests place_within PlaceWithin place_tests (h (k x))).1 (each_of_one PlaceWithin xs i x lt at e) in
      let z : true ≡ false = sym t ∙ f in absurd (cc))

pub both_within : (xs ys : List Place) → each place_within xs ≡ true → each place_within ys ≡ true → each place_within (xs ++ ys) ≡ true
both_within xs ys f g =
    (each_tests place_within PlaceWithin place_tests (xs ++ ys)).1
    (each_append PlaceWithin xs ys ((each_tests place_within PlaceWithin place_tests xs).0 f) ((each_tests place_within PlaceWithin place_tests ys).0 g))

pub each_at : {A B : Type 0} (k : A → B) (Q : B → Type 0) (xs : List A) (i : ℕ) (x : A) → i < length xs → x ≡ get_or xs i x → EachOf Q (map k xs) → Q (k x)
each_at k Q [] i x lt at e = absurd (omega arith)
each_at k Q (y ∷ xs) zero x lt at e = subst (λ z. Q (k z)) (sym at) e.0
each_at k Q (y ∷ xs) (suc i) x lt at e = each_at k Q xs i x (omega arith) at e.1
