-- Where branches stand, as one more is put behind them.
use Rattle.std.proofs.Common.{◌≡◌, ◌<◌, get_or, arith, ℕ, zero, suc, Bool, true, false, cond, List, [], ◌∷◌, ◌++◌, Some, slice_get, length, refl, sym, ap, ◌∙◌, subst, inl, inr, eqb-true}
use Rattle.std.specs.Cmp.Lexicographic.{pointwise}
use Rattle.std.specs.HashMap.{get}
use Rattle.std.specs.Prelude.{nat_eq, ◌&&◌}
use Rattle.logic_meaning.specs.Some.{SomeOf}
use Rattle.logic_meaning.specs.declared.form.VarId.{VarId}
use Rattle.formula_store.specs.declared.id.FormulaId.{FormulaId}
use Rattle.formula_store.specs.Tables.{TableOf, same_id}
use Rattle.formula_store.proofs.Keys.{same_id as one_id}
use Rattle.branch_rounds.specs.Branches.{Seen, ArePlaces}

at_end : {X : Type 0} (xs : List X) (x : X) → slice_get (xs ++ x ∷ []) (length xs) ≡ Some x
at_end [] x = refl
at_end (y ∷ xs) x = at_end xs x

still_at : {X : Type 0} (xs : List X) (x y : X) (i : ℕ) → slice_get xs i ≡ Some y → slice_get (xs ++ x ∷ []) i ≡ Some y
still_at [] x y i e = cc
still_at (z ∷ xs) x y zero e = e
still_at (z ∷ xs) x y (suc i) e = still_at xs x y i e

-- one behind the others leaves them where they stand
pub places_longer : (bs : List Seen) (b : Seen) (table : TableOf ℕ) → ArePlaces bs table → ArePlaces (bs ++ b ∷ []) table
places_longer bs b table h id p e = let f = h id p e in (f.0, still_at bs b f.0 p f.1, f.2)

-- and the table may have its place
pub places_more : (bs : List Seen) (b : Seen) (table table2 : TableOf ℕ) (key : FormulaId) (n : ℕ) → key ≡ b.formula → n ≡ length bs → ((q : FormulaId) → get same_id table2 q ≡ cond (same_id key q) (Some n) (get same_id table q)) →
    ArePlaces bs table → ArePlaces (bs ++ b ∷ []) table2
places_more bs b table table2 key n k l put h id p e = go (same_id key id) refl
  where
    go : (t : Bool) → same_id key id ≡ t → (d : Seen) × (slice_get (bs ++ b ∷ []) p ≡ Some d) × (d.formula ≡ id)
    go true t =
        let here : Some n ≡ Some p = sym (ap (λ s. cond s (Some n) (get same_id table id)) t) ∙ sym (put id) ∙ e in
        let place : n ≡ p = cc in
        (b, subst (λ i. slice_get (bs ++ b ∷ []) i ≡ Some b) (sym l ∙ place) (at_end bs b), sym k ∙ one_id key id t)
    go false t = places_longer bs b table h id p (sym (ap (λ s. cond s (Some n) (get same_id table id)) t) ∙ sym (put id) ∙ e)

-- one that stands at a place is among them
pub some_there : (P : Seen → Type 0) (bs : List Seen) (i : ℕ) (b : Seen) → slice_get bs i ≡ Some b → P b → SomeOf P bs
some_there P [] i b e h = cc
some_there P (a ∷ bs) zero b e h = let same : a ≡ b = cc in inl (subst P (sym same) h)
some_there P (a ∷ bs) (suc i) b e h = inr (some_there P bs i b e h)

-- names that are equal one by one
pub names_same : (xs ys : List VarId) → pointwise (λ (a b : VarId). nat_eq a.number b.number) xs ys ≡ true → xs ≡ ys
names_same [] [] e = refl
names_same [] (y ∷ ys) e = cc
names_same (x ∷ xs) [] e = cc
names_same (x ∷ xs) (y ∷ ys) e = go (nat_eq x.number y.number) refl (names_same xs ys) e
  where
    go : (t : Bool) → nat_eq x.number y.number ≡ t → (pointwise (λ (a b : VarId). nat_eq a.number b.number) xs ys ≡ true → xs ≡ ys) → (t && pointwise (λ (a b : VarId). nat_eq a.number b.number) xs ys) ≡ true → x ∷ xs ≡ y ∷ ys
    go true t same h = let n : x.number ≡ y.number = eqb-true x.number y.number t in λ i. record { number = n i } ∷ same h i
    go false t same h = cc

pub some_at : (P : Seen → Type 0) (bs : List Seen) (i : ℕ) (b : Seen) → i < length bs → b ≡ get_or bs i b → P b → SomeOf P bs
some_at P [] i b lt e h = absurd (omega (arith, lt))
some_at P (a ∷ bs) zero b lt e h = inl (subst P e h)
some_at P (a ∷ bs) (suc i) b lt e h = inr (some_at P bs i b (omega (arith, lt)) e h)
