-- The places of names in a list of different names.
use Rattle.std.proofs.Common.{◌≡◌, ◌⊎◌, inl, inr, ⊎_elim, ℕ, zero, suc, ◌+◌, List, [], ◌∷◌, ◌++◌, Bool, true, false, not, ◌||◌, Option, Some, None, ap, sym, ◌∙◌, subst, refl, arith, nat_eq, eq-eqb, eqb-true, if◌then◌else◌}
use Rattle.std.proofs.Math.IntN.{ℤ, pos, ◌*ℤ◌}
use Rattle.std.specs.Prelude.{unwrap_or, option_map, slice_get}
use Rattle.std.specs.List.{IsDistinct, AllByRecursion, list_any, fold}
use Rattle.std.specs.Cmp.Lexicographic.{pointwise_decides}
use Rattle.std.proofs.lemmas.Cmp.{nat_list_eq_equiv}
use Rattle.std.proofs.lemmas.Map.Keys.{IsDistinct-push}
use Rattle.exact_numbers.proofs.Ring.{mul_zero}
use Rattle.logic_meaning.specs.Point.{move}
use Rattle.formula_laws.proofs.SamePoint.{point_same}
use Rattle.language_meaning.specs.Value.{NamedPoint, same_name}
use Rattle.written_syntax.specs.Valued.{IsIn}
use Rattle.logic_meaning.specs.Names.{with_name, place}
use Rattle.language_meaning.specs.Resolving.{at_names}

pub same_is : (xs ys : List ℕ) → same_name xs ys ≡ true → xs ≡ ys
same_is xs ys = (pointwise_decides (λ m n. (eqb-true m n, eq-eqb m n)) xs ys).0

pub same_itself : (x : List ℕ) → same_name x x ≡ true
same_itself x = nat_list_eq_equiv.refl x

-- names that are not one are not the same
other_name : (x y : List ℕ) → same_name x y ≡ false → ¬ (x ≡ y)
other_name x y e p = let t = sym (same_itself x) ∙ ap (same_name x) p ∙ e in absurd (cc)

after_one : {X : Type 0} (y : X) (ys : List X) (n : ℕ) → slice_get (y ∷ ys) (1 + n) ≡ slice_get ys n
after_one y ys n = let e : 1 + n ≡ suc n = omega arith in ap (slice_get (y ∷ ys)) e

-- a name of the list stands at its place
pub slice_place : (names : List (List ℕ)) (x : List ℕ) → IsIn x names → slice_get names (place names x) ≡ Some x
slice_place [] x h = absurd h
slice_place (y ∷ ys) x h = go (same_name x y) refl (slice_place ys x)
  where
    go : (b : Bool) → same_name x y ≡ b → (IsIn x ys → slice_get ys (place ys x) ≡ Some x) → slice_get (y ∷ ys) (if not b then 1 + place ys x else 0) ≡ Some x
    go true e r = ap Some (sym (same_is x y e))
    go false e r = after_one y ys (place ys x) ∙ r (⊎_elim (λ p. absurd (other_name x y e (sym p))) (λ i. i) h)

all_at : {X : Type 0} (P : X → Type 0) (xs : List X) (i : ℕ) (x : X) → AllByRecursion P xs → slice_get xs i ≡ Some x → P x
all_at P [] i x h e = absurd (cc)
all_at P (y ∷ ys) zero x h e = let p : y ≡ x = cc in subst P p h.0
all_at P (y ∷ ys) (suc i) x h e = all_at P ys i x h.1 e

-- it stands nowhere else
pub one_place : (names : List (List ℕ)) (i j : ℕ) (x : List ℕ) → IsDistinct same_name names → slice_get names i ≡ Some x → slice_get names j ≡ Some x → i ≡ j
unfolding IsDistinct
one_place [] i j x d e f = absurd (cc)
one_place (y ∷ ys) zero zero x d e f = refl
one_place (y ∷ ys) zero (suc j) x d e f =
    let p : y ≡ x = cc in
    absurd (other_name y x (all_at (λ z. same_name y z ≡ false) ys j x d.0 f) p)
one_place (y ∷ ys) (suc i) zero x d e f =
    let p : y ≡ x = cc in
    absurd (other_name y x (all_at (λ z. same_name y z ≡ false) ys i x d.0 e) p)
one_place (y ∷ ys) (suc i) (suc j) x d e f = ap suc (one_place ys i j x d.1 e f)

-- ---- points

-- the number of a name of the list stands for it
pub at_place : (names : List (List ℕ)) (p : NamedPoint) (x : List ℕ) → IsIn x names → (at_names names p).at (place names x) ≡ p.at x
at_place names p x h = ap (λ o. unwrap_or (option_map p.at o) (pos 0)) (slice_place names x h)

nat_eq_other : (m n : ℕ) → ¬ (m ≡ n) → nat_eq m n ≡ false
nat_eq_other m n h = go (nat_eq m n) refl
  where
    go : (b : Bool) → nat_eq m n ≡ b → b ≡ false
    go true e = absurd (h (eqb-true m n e))
    go false e = refl

-- a move by a name of the list is a move by its number
pub move_at_names : (names : List (List ℕ)) (p : NamedPoint) (x : List ℕ) (k : ℤ) (m : ℕ) → IsDistinct same_name names → IsIn x names
    → at_names names (move same_name p x k m) ≡ move nat_eq (at_names names p) (place names x) k m
unfolding move
move_at_names names p x k m d h = point_same _ _ _ _ each refl
  where
    here : slice_get names (place names x) ≡ Some x
    here = slice_place names x h

    at_none : (n : ℕ) → slice_get names n ≡ None → (b : Bool) → nat_eq (place names x) n ≡ b → pos 0 ≡ (if b then k else pos m *ℤ pos 0)
    at_none n e true i = let q = eqb-true (place names x) n i in let f = sym here ∙ ap (slice_get names) q ∙ e in absurd (cc)
    at_none n e false i = sym (mul_zero (pos m))

    at_some : (n : ℕ) (y : List ℕ) → slice_get names n ≡ Some y → (b : Bool) → same_name x y ≡ b →
        (if b then k else pos m *ℤ p.at y) ≡ (if nat_eq (place names x) n then k else pos m *ℤ p.at y)
    at_some n y e true i =
        let q : place names x ≡ n = one_place names (place names x) n y d (here ∙ ap Some (same_is x y i)) e in
        sym (ap (λ b. if b then k else pos m *ℤ p.at y) (eq-eqb (place names x) n q))
    at_some n y e false i =
        sym (ap (λ b. if b then k else pos m *ℤ p.at y) (nat_eq_other (place names x) n (λ q. let f : Some x ≡ Some y = sym here ∙ ap (slice_get names) q ∙ e in other_name x y i (cc))))

    each : (n : ℕ) → unwrap_or (option_map (λ o. if same_name x o then k else pos m *ℤ p.at o) (slice_get names n)) (pos 0)
        ≡ (if nat_eq (place names x) n then k else pos m *ℤ unwrap_or (option_map p.at (slice_get names n)) (pos 0))
    each n = go (slice_get names n) refl
      where
        go : (o : Option (List ℕ)) → slice_get names n ≡ o → unwrap_or (option_map (λ o. if same_name x o then k else pos m *ℤ p.at o) o) (pos 0)
            ≡ (if nat_eq (place names x) n then k else pos m *ℤ unwrap_or (option_map p.at o) (pos 0))
        go None e = at_none n e (nat_eq (place names x) n) refl
        go (Some y) e = at_some n y e (same_name x y) refl

-- ---- names put in

in_left : (x : List ℕ) (xs ys : List (List ℕ)) → IsIn x xs → IsIn x (xs ++ ys)
in_left x [] ys h = absurd h
in_left x (y ∷ xs) ys (inl e) = inl e
in_left x (y ∷ xs) ys (inr h) = inr (in_left x xs ys h)

in_right : (x : List ℕ) (xs ys : List (List ℕ)) → IsIn x ys → IsIn x (xs ++ ys)
in_right x [] ys h = h
in_right x (y ∷ xs) ys h = inr (in_right x xs ys h)

pub in_either : (x : List ℕ) (xs ys : List (List ℕ)) → IsIn x xs ⊎ IsIn x ys → IsIn x (xs ++ ys)
in_either x xs ys = ⊎_elim (in_left x xs ys) (in_right x xs ys)

found_in : (x : List ℕ) (names : List (List ℕ)) → list_any (same_name x) names ≡ true → IsIn x names
found_in x [] e = absurd (cc)
found_in x (y ∷ ys) e = go (same_name x y) refl e (found_in x ys)
  where
    go : (b : Bool) → same_name x y ≡ b → (b || list_any (same_name x) ys) ≡ true → (list_any (same_name x) ys ≡ true → IsIn x ys) → IsIn x (y ∷ ys)
    go true i e r = inl (sym (same_is x y i))
    go false i e r = inr (r e)

-- the list with a name has it, and those that it had
with_has : (names : List (List ℕ)) (y x : List ℕ) → IsIn x names ⊎ (y ≡ x) → IsIn x (with_name names y)
with_has names y x h = go (list_any (same_name y) names) refl
  where
    go : (b : Bool) → list_any (same_name y) names ≡ b → IsIn x (if b then names else names ++ y ∷ [])
    go true e = ⊎_elim (λ i. i) (λ p. subst (λ z. IsIn z names) p (found_in y names e)) h
    go false e = ⊎_elim (λ i. in_left x names (y ∷ []) i) (λ p. in_right x names (y ∷ []) (inl p)) h

pub after_has : (xs names : List (List ℕ)) (x : List ℕ) → IsIn x names ⊎ IsIn x xs → IsIn x (fold with_name names xs)
after_has [] names x (inl i) = i
after_has [] names x (inr i) = absurd i
after_has (y ∷ ys) names x (inl i) = after_has ys (with_name names y) x (inl (with_has names y x (inl i)))
after_has (y ∷ ys) names x (inr (inl e)) = after_has ys (with_name names y) x (inl (with_has names y x (inr e)))
after_has (y ∷ ys) names x (inr (inr i)) = after_has ys (with_name names y) x (inr i)

with_distinct : (names : List (List ℕ)) (y : List ℕ) → IsDistinct same_name names → IsDistinct same_name (with_name names y)
with_distinct names y d = go (list_any (same_name y) names) refl
  where
    go : (b : Bool) → list_any (same_name y) names ≡ b → IsDistinct same_name (if b then names else names ++ y ∷ [])
    go true e = d
    go false e = IsDistinct-push nat_list_eq_equiv names y d e

pub after_distinct : (xs names : List (List ℕ)) → IsDistinct same_name names → IsDistinct same_name (fold with_name names xs)
after_distinct [] names d = d
after_distinct (y ∷ ys) names d = after_distinct ys (with_name names y) (with_distinct names y d)
