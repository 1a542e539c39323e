-- Names and atoms that are added to lists.
use Rattle.std.proofs.Common.{◌≡◌, ℕ, ◌<◌, ◌≤◌, ◌||◌, Bool, true, false, nat_eq, List, [], ◌∷◌, ◌++◌, length, get_or, take, reverse, zero, suc, sym, subst, inl, inr, arith, refl}
use Rattle.std.proofs.lemmas.Bool.{eq-eqb, eqb-true}
use mathlib.Core.List.{reverse-cons}
use Rattle.std.specs.List.{list_any}
use Rattle.logic_meaning.specs.Some.{EachOf, SomeOf}
use Rattle.formula_laws.specs.StandsOnce.{StandsOnce}
use Rattle.logic_meaning.specs.declared.form.VarId.{VarId}
use Rattle.formula_store.specs.declared.id.FormulaId.{FormulaId}
use Rattle.branch_rounds.specs.Branches.{numbers}

pub each_then : {X : Type 0} (P : X → Type 0) (xs : List X) (x : X) → EachOf P xs → P x → EachOf P (xs ++ x ∷ [])
each_then P [] x h k = (k, tt)
each_then P (y ∷ xs) x h k = (h.0, each_then P xs x h.1 k)

pub each_at : {X : Type 0} (P : X → Type 0) (xs : List X) (i : ℕ) (d : X) → i < length xs → EachOf P xs → P (get_or xs i d)
each_at P [] i d h e = absurd (omega arith)
each_at P (x ∷ xs) zero d h e = e.0
each_at P (x ∷ xs) (suc i) d h e = each_at P xs i d (omega arith) e.1

each_but_last : {X : Type 0} (P : X → Type 0) (ys : List X) (x : X) → EachOf P (ys ++ x ∷ []) → EachOf P ys × P x
each_but_last P [] x h = (tt, h.0)
each_but_last P (y ∷ ys) x h = let r = each_but_last P ys x h.1 in ((h.0, r.0), r.1)

pub some_here : {X : Type 0} (P : X → Type 0) (xs : List X) (i : ℕ) (d : X) → i < length xs → P (get_or xs i d) → SomeOf P xs
some_here P [] i d h e = absurd (omega arith)
some_here P (x ∷ xs) zero d h e = inl e
some_here P (x ∷ xs) (suc i) d h e = inr (some_here P xs i d (omega arith) e)

pub each_whole : {X : Type 0} (P : X → Type 0) (xs : List X) (i : ℕ) → length xs ≤ i → EachOf P (take i xs) → EachOf P xs
each_whole P [] i h e = tt
each_whole P (x ∷ xs) zero h e = absurd (omega arith)
each_whole P (x ∷ xs) (suc i) h e = (e.0, each_whole P xs i (omega arith) e.1)

-- what holds of each holds of one that is found
pub each_found : (P : FormulaId → Type 0) (m : FormulaId) (xs : List FormulaId) → list_any (λ (y : FormulaId). nat_eq y.number m.number) xs ≡ true → EachOf P xs → P m
each_found P m [] e h = cc
each_found P m (x ∷ xs) e h = first_or_rest (λ q. each_found P m xs q h.1) (nat_eq x.number m.number) refl e
  where
    first_or_rest : (list_any (λ (y : FormulaId). nat_eq y.number m.number) xs ≡ true → P m) → (b : Bool) → nat_eq x.number m.number ≡ b → (b || list_any (λ (y : FormulaId). nat_eq y.number m.number) xs) ≡ true → P m
    first_or_rest rest true q found = subst P (λ i. record { number = eqb-true x.number m.number q i }) h.0
    first_or_rest rest false q found = rest found

pub each_reversed : {X : Type 0} (P : X → Type 0) (xs : List X) → EachOf P xs → EachOf P (reverse xs)
each_reversed P [] h = tt
each_reversed P (x ∷ xs) h = subst (EachOf P) (sym (reverse-cons x xs)) (each_then P (reverse xs) x (each_reversed P xs h.1) h.0)

-- a list whose last element goes
pub each_front : {X : Type 0} (P : X → Type 0) (xs ys : List X) (x : X) → xs ≡ ys ++ x ∷ [] → EachOf P xs → EachOf P ys × P x
each_front P xs ys x e h = each_but_last P ys x (subst (EachOf P) e h)

-- a name that is not there is added
module _ (x : VarId) where
  abbrev is_there : List VarId → Bool
  is_there xs = list_any (λ (y : VarId). nat_eq y.number x.number) xs

  first_off : (a b : Bool) → (a || b) ≡ false → (a ≡ false) × (b ≡ false)
  first_off true b e = cc
  first_off false b e = (refl, e)

  not_among : (z : ℕ) (xs : List VarId) → ¬ (z ≡ x.number) → ¬ (SomeOf (λ y. z ≡ y) (numbers xs)) → ¬ (SomeOf (λ y. z ≡ y) (numbers (xs ++ x ∷ [])))
  not_among z [] n m (inl e) = n e
  not_among z [] n m (inr h) = h
  not_among z (y ∷ xs) n m (inl e) = m (inl e)
  not_among z (y ∷ xs) n m (inr h) = not_among z xs n (λ k. m (inr k)) h

  pub once_more : (xs : List VarId) → is_there xs ≡ false → StandsOnce (numbers xs) → StandsOnce (numbers (xs ++ x ∷ []))
  once_more [] e h = ((λ k. k), tt)
  once_more (y ∷ xs) e h =
      let off = first_off (nat_eq y.number x.number) (is_there xs) e in
      (not_among y.number xs (λ same. let t : nat_eq y.number x.number ≡ true = eq-eqb y.number x.number same in let f = off.0 in cc) h.0, once_more xs off.1 h.1)
