-- A list built by putting each element last unless it is there is the list without repeats.
use Rattle.std.proofs.Common.{◌≡◌, Bool, true, false, ◌||◌, List, [], ◌∷◌, ◌++◌, map, refl, sym, ap, ap₂, ◌∙◌, subst, if◌then◌else◌, append_assoc, append-nil}
use Rattle.std.proofs.lemmas.List.{map-append}
use Rattle.std.specs.List.{list_any, fold}
use Rattle.logic_meaning.specs.Some.{EachOf}
use Rattle.logic_meaning.specs.Distinct.{without_same, distinct}
use Rattle.formula_laws.proofs.Once.{without_swap, without_twice, without_all, all_without, all_nothing}
use Rattle.elimination_theory.proofs.SomeListed.{each_append}
use Rattle.indexmap.specs.IndexSet.{insert_key, insert_all}

module _ {X : Type 0} (same : X → X → Bool) (sound : (x y : X) → same x y ≡ true → x ≡ y) where
  -- an element is the same as this one
  abbrev has : List X → X → Bool
  has xs y = list_any (λ x. same x y) xs

  -- the element last, unless one is the same
  abbrev put : List X → X → List X
  put xs y = if has xs y then xs else xs ++ y ∷ []

  removed_first : (xs : List X) (y : X) (ys : List X) → without_all same xs (y ∷ ys) ≡ (if has xs y then without_all same xs ys else y ∷ without_all same xs ys)
  removed_first [] y ys = refl
  removed_first (x ∷ xs) y ys = ap (without_same same x) (removed_first xs y ys) ∙ go (same x y) refl (has xs y)
    where
      go : (a : Bool) → same x y ≡ a → (b : Bool) →
          without_same same x (if b then without_all same xs ys else y ∷ without_all same xs ys) ≡ (if a || b then without_same same x (without_all same xs ys) else y ∷ without_same same x (without_all same xs ys))
      go true e true = refl
      go true e false = rw e refl
      go false e true = refl
      go false e false = rw e refl

  -- what is the same as an element is gone already
  gone : (xs : List X) (y : X) (zs : List X) → has xs y ≡ true → without_same same y (without_all same xs zs) ≡ without_all same xs zs
  gone [] y zs h = absurd (cc)
  gone (x ∷ xs) y zs h = go (same x y) refl h (λ k. gone xs y zs k)
    where
      go : (b : Bool) → same x y ≡ b → (b || has xs y) ≡ true → (has xs y ≡ true → without_same same y (without_all same xs zs) ≡ without_all same xs zs) → without_same same y (without_same same x (without_all same xs zs)) ≡ without_same same x (without_all same xs zs)
      go true e k r = subst (λ (w : X). without_same same w (without_same same x (without_all same xs zs)) ≡ without_same same x (without_all same xs zs)) (sound x y e) (without_twice same x (without_all same xs zs))
      go false e k r = without_swap same y x (without_all same xs zs) ∙ ap (without_same same x) (r k)

  removed_last : (xs : List X) (y : X) (zs : List X) → without_all same (xs ++ y ∷ []) zs ≡ without_all same xs (without_same same y zs)
  removed_last [] y zs = refl
  removed_last (x ∷ xs) y zs = ap (without_same same x) (removed_last xs y zs)

  put_all : (xs ys : List X) → fold put xs ys ≡ xs ++ without_all same xs (distinct same ys)
  put_all xs [] = sym (append-nil xs) ∙ ap (λ l. xs ++ l) (sym (all_nothing same xs))
  put_all xs (y ∷ ys) =
      go (has xs y) refl (put_all xs ys) (put_all (xs ++ y ∷ []) ys) ∙ ap (λ l. xs ++ l) (sym (removed_first xs y (without_same same y (distinct same ys))))
    where
      go : (b : Bool) → has xs y ≡ b → fold put xs ys ≡ xs ++ without_all same xs (distinct same ys) → fold put (xs ++ y ∷ []) ys ≡ (xs ++ y ∷ []) ++ without_all same (xs ++ y ∷ []) (distinct same ys) →
          fold put (if b then xs else xs ++ y ∷ []) ys ≡ xs ++ (if b then without_all same xs (without_same same y (distinct same ys)) else y ∷ without_all same xs (without_same same y (distinct same ys)))
      go true e h k = h ∙ ap (λ l. xs ++ l) (sym (all_without same xs y (distinct same ys) ∙ gone xs y (distinct same ys) e))
      go false e h k = k ∙ append_assoc xs (y ∷ []) (without_all same (xs ++ y ∷ []) (distinct same ys)) ∙ ap (λ l. xs ++ y ∷ l) (removed_last xs y (distinct same ys))

  -- the same of elements that the test compares through g
  module _ {T : Type 0} (eq : T → T → Bool) (g : T → X) (Q : T → Type 0) (agree : (new old : T) → Q new → Q old → eq new old ≡ same (g old) (g new)) where
    any_agree : (ks : List T) (k : T) → EachOf Q ks → Q k → list_any (eq k) ks ≡ has (map g ks) (g k)
    any_agree [] k h q = refl
    any_agree (o ∷ ks) k h q = ap₂ (λ a b. a || b) (agree k o q h.0) (any_agree ks k h.1 q)

    map_put : (ks : List T) (k : T) → EachOf Q ks → Q k → map g (insert_key eq ks k) ≡ put (map g ks) (g k)
    map_put ks k h q = go (list_any (eq k) ks) refl ∙ ap (λ b. if b then map g ks else map g ks ++ g k ∷ []) (any_agree ks k h q)
      where
        go : (b : Bool) → list_any (eq k) ks ≡ b → map g (if b then ks else ks ++ k ∷ []) ≡ (if b then map g ks else map g ks ++ g k ∷ [])
        go true e = refl
        go false e = map-append g ks (k ∷ [])

    each_put : (ks : List T) (k : T) → EachOf Q ks → Q k → EachOf Q (insert_key eq ks k)
    each_put ks k h q = go (list_any (eq k) ks)
      where
        go : (b : Bool) → EachOf Q (if b then ks else ks ++ k ∷ [])
        go true = h
        go false = each_append Q ks (k ∷ []) h (q, tt)

    pub each_inserted : (ks xs : List T) → EachOf Q ks → EachOf Q xs → EachOf Q (insert_all eq ks xs)
    each_inserted ks [] h k = h
    each_inserted ks (x ∷ xs) h k = each_inserted (insert_key eq ks x) xs (each_put ks x h k.0) k.1

    map_inserted : (ks xs : List T) → EachOf Q ks → EachOf Q xs → map g (insert_all eq ks xs) ≡ fold put (map g ks) (map g xs)
    map_inserted ks [] h k = refl
    map_inserted ks (x ∷ xs) h k = map_inserted (insert_key eq ks x) xs (each_put ks x h k.0) k.1 ∙ ap (λ l. fold put l (map g xs)) (map_put ks x h k.0)

    pub inserted_is_distinct : (xs : List T) → EachOf Q xs → map g (insert_all eq [] xs) ≡ distinct same (map g xs)
    inserted_is_distinct xs k = map_inserted [] xs tt k ∙ put_all [] (map g xs)
