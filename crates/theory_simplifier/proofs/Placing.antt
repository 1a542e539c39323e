-- Reading a list at the places of one number reads all that matters.
use Rattle.std.proofs.Common.{◌≡◌, ℕ, zero, suc, ◌<◌, nat_eq, Bool, true, false, refl, sym, ap, ◌∙◌, Option, Some, None, List, [], ◌∷◌, ◌++◌, length, take, map, get_or, subst, arith}
use Rattle.std.proofs.Math.ListN.{set}
use Rattle.std.specs.Prelude.{if◌then◌else◌, unwrap_or}
use Rattle.logic_meaning.specs.Some.{EachOf}
use Rattle.std.specs.declared.alloc.Global.{Global}
use Rattle.std.specs.declared.vec.Vec.{Vec}
use Rattle.std.specs.HashMap.{get}
use Rattle.theory_simplifier.specs.Places.{Table, items_of, places_at, places_of}
use Rattle.theory_simplifier.proofs.Entries.{map_append}

-- the numbers below the length of a list, each one more
later_each : (P Q : ℕ → Type 0) → ((i : ℕ) → P (suc i) → Q i) → (is : List ℕ) (k : ℕ) → EachOf P (take k (map suc is)) → EachOf Q (take k is)
later_each P Q f [] zero h = tt
later_each P Q f [] (suc k) h = tt
later_each P Q f (i ∷ is) zero h = tt
later_each P Q f (i ∷ is) (suc k) h = (f i h.0, later_each P Q f is k h.1)

later_at : (is : List ℕ) (k d : ℕ) → k < length is → get_or (map suc is) k d ≡ suc (get_or is k d)
later_at [] k d h = absurd (omega arith)
later_at (i ∷ is) zero d h = refl
later_at (i ∷ is) (suc k) d h = later_at is k d (omega arith)

later_length : (is : List ℕ) → length (map suc is) ≡ length is
later_length [] = refl
later_length (i ∷ is) = ap suc (later_length is)

module _ {X : Type 0} (part : X → ℕ) (p : ℕ) where
  abbrev at_part : List X → List ℕ
  at_part xs = places_of part p xs

  -- a place of the number is one of the list
  pub place_within : (xs : List X) (k d : ℕ) → k < length (at_part xs) → get_or (at_part xs) k d < length xs
  place_within [] k d h = absurd (omega arith)
  place_within (x ∷ xs) k d h = split (nat_eq (part x) p) k h (λ k h. place_within xs k d h)
    where
      later : (k : ℕ) → k < length (map suc (at_part xs)) → ((k : ℕ) → k < length (at_part xs) → get_or (at_part xs) k d < length xs) → get_or (map suc (at_part xs)) k d < suc (length xs)
      later k h f =
          let l = later_length (at_part xs) in
          let e = later_at (at_part xs) k d (omega arith) in
          let i = f k (omega arith) in
          omega arith

      split : (b : Bool) (k : ℕ) → k < length (if b then 0 ∷ map suc (at_part xs) else map suc (at_part xs)) → ((k : ℕ) → k < length (at_part xs) → get_or (at_part xs) k d < length xs)
          → get_or (if b then 0 ∷ map suc (at_part xs) else map suc (at_part xs)) k d < suc (length xs)
      split true zero h f = omega arith
      split true (suc k) h f = later k (omega arith) f
      split false k h f = later k h f

  module _ (P : X → Type 0) (none : X) where
    abbrev Holds : List X → ℕ → Type 0
    Holds xs i = P (get_or xs i none)

    abbrev Before : List X → ℕ → Type 0
    Before xs d = (k : ℕ) → k < length (at_part xs) → EachOf (Holds xs) (take k (at_part xs)) → EachOf P (take (get_or (at_part xs) k d) xs)

    -- what holds of the members of other numbers, and at the first k places, holds before the next place
    pub before_place : (xs : List X) (k d : ℕ) → EachOf (λ x. nat_eq (part x) p ≡ false → P x) xs → k < length (at_part xs) → EachOf (Holds xs) (take k (at_part xs)) → EachOf P (take (get_or (at_part xs) k d) xs)
    before_place [] k d o l h = absurd (omega arith)
    before_place (x ∷ xs) k d o l h = split (nat_eq (part x) p) refl k l h (λ k l h. before_place xs k d o.1 l h)
      where
        later : P x → (k : ℕ) → k < length (map suc (at_part xs)) → EachOf (Holds (x ∷ xs)) (take k (map suc (at_part xs))) → Before xs d → EachOf P (take (get_or (map suc (at_part xs)) k d) (x ∷ xs))
        later q k l h f =
            let n = later_length (at_part xs) in
            let e = later_at (at_part xs) k d (omega arith) in
            subst (λ (i : ℕ). EachOf P (take i (x ∷ xs))) (sym e)
            (q, f k (omega arith) (later_each (Holds (x ∷ xs)) (Holds xs) (λ i z. z) (at_part xs) k h))

        split : (b : Bool) → nat_eq (part x) p ≡ b → (k : ℕ) → k < length (if b then 0 ∷ map suc (at_part xs) else map suc (at_part xs)) → EachOf (Holds (x ∷ xs)) (take k (if b then 0 ∷ map suc (at_part xs) else map suc (at_part xs)))
            → Before xs d → EachOf P (take (get_or (if b then 0 ∷ map suc (at_part xs) else map suc (at_part xs)) k d) (x ∷ xs))
        split true e zero l h f = tt
        split true e (suc k) l h f = later h.0 k (omega arith) h.1 f
        split false e k l h f = later (o.0 e) k l h f

    -- and at all of them, of the whole list
    pub at_places : (xs : List X) → EachOf (λ x. nat_eq (part x) p ≡ false → P x) xs → EachOf (Holds xs) (at_part xs) → EachOf P xs
    at_places [] o h = tt
    at_places (x ∷ xs) o h = split (nat_eq (part x) p) refl h (λ h. at_places xs o.1 h)
      where
        all_later : (Q R : ℕ → Type 0) → ((i : ℕ) → Q (suc i) → R i) → (is : List ℕ) → EachOf Q (map suc is) → EachOf R is
        all_later Q R f [] h = tt
        all_later Q R f (i ∷ is) h = (f i h.0, all_later Q R f is h.1)

        rest : EachOf (Holds (x ∷ xs)) (map suc (at_part xs)) → EachOf (Holds xs) (at_part xs)
        rest h = all_later (Holds (x ∷ xs)) (Holds xs) (λ i z. z) (at_part xs) h

        split : (b : Bool) → nat_eq (part x) p ≡ b → EachOf (Holds (x ∷ xs)) (if b then 0 ∷ map suc (at_part xs) else map suc (at_part xs)) → (EachOf (Holds xs) (at_part xs) → EachOf P xs) → EachOf P (x ∷ xs)
        split true e h f = (h.0, f (rest h.1))
        split false e h f = (o.0 e, f (rest h))

  -- ---- a member more, and another member of its number

  later_last : (is : List ℕ) (n : ℕ) → map suc (is ++ n ∷ []) ≡ map suc is ++ suc n ∷ []
  later_last is n = map_append suc is (n ∷ [])

  pub places_last : (xs : List X) (y : X) → places_of part p (xs ++ y ∷ []) ≡ (if nat_eq (part y) p then places_of part p xs ++ length xs ∷ [] else places_of part p xs)
  places_last [] y = refl
  places_last (x ∷ xs) y = ap (λ is. if nat_eq (part x) p then 0 ∷ map suc is else map suc is) (places_last xs y) ∙ split (nat_eq (part x) p) (nat_eq (part y) p)
    where
      split : (b t : Bool) → (if b then 0 ∷ map suc (if t then at_part xs ++ length xs ∷ [] else at_part xs) else map suc (if t then at_part xs ++ length xs ∷ [] else at_part xs))
          ≡ (if t then (if b then 0 ∷ map suc (at_part xs) else map suc (at_part xs)) ++ suc (length xs) ∷ [] else (if b then 0 ∷ map suc (at_part xs) else map suc (at_part xs)))
      split true true = ap (λ is. 0 ∷ is) (later_last (at_part xs) (length xs))
      split false true = later_last (at_part xs) (length xs)
      split true false = refl
      split false false = refl

  pub places_set : (xs : List X) (i : ℕ) (y d : X) → i < length xs → part y ≡ part (get_or xs i d) → places_of part p (set xs i y) ≡ places_of part p xs
  places_set [] i y d l e = absurd (omega arith)
  places_set (x ∷ xs) zero y d l e = ap (λ (f : ℕ). if nat_eq f p then 0 ∷ map suc (at_part xs) else map suc (at_part xs)) e
  places_set (x ∷ xs) (suc i) y d l e = ap (λ is. if nat_eq (part x) p then 0 ∷ map suc is else map suc is) (places_set xs i y d (omega arith) e)

-- what is there for a number, after the list with one more place was put there for one of them
pub placed : (old : Table) (part p : ℕ) (place : ℕ) (v : Vec ℕ Global) (o : Option (Vec ℕ Global)) → v.items ≡ places_at old part ++ place ∷ [] → o ≡ (if nat_eq part p then Some v else get nat_eq old p) → items_of o ≡ (if nat_eq part p then places_at old part ++ place ∷ [] else places_at old p)
placed old part p place v o items got = ap items_of got ∙ split (nat_eq part p)
  where
    split : (b : Bool) → items_of (if b then Some v else get nat_eq old p) ≡ (if b then places_at old part ++ place ∷ [] else places_at old p)
    split true = items
    split false = refl

pub items_or_none : (o : Option (Vec ℕ Global)) (v : Vec ℕ Global) → v.items ≡ [] → (unwrap_or o v).items ≡ items_of o
items_or_none None v e = e
items_or_none (Some w) v e = refl
