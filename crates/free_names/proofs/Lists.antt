-- Lists of numbers to which one is added.
use Rattle.std.proofs.Common.{◌≡◌, ◌⊎◌, inl, inr, ⊎_elim, ℕ, List, [], ◌∷◌, ◌++◌, Bool, true, cond, IsTrue, ◌↔◌, sym, ◌∙◌, ap, subst}
use Rattle.std.proofs.lemmas.Map.Lookups.{exact_unsigned}
use Rattle.std.proofs.lemmas.Map.Views.{tells_apart}
use Rattle.std.specs.Cmp.{nat_cmp_is}
use Rattle.std.specs.Ordering.{nat_cmp, is_eq}
use Rattle.std.specs.declared.cmp.Ordering.TheVariants.{Equal}
use Rattle.std.specs.BTreeMap.{is_at}
use Rattle.logic_meaning.specs.Some.{SomeOf}
use Rattle.written_syntax.proofs.NameOrder.{by_at}
use Rattle.written_syntax.proofs.EntryLists.{some_left, some_right, some_split, some_one}
use Rattle.free_names.specs.Scopes.{IsIn}

pub at_same : (n m : ℕ) → is_at (nat_cmp n) m ≡ true → n ≡ m
at_same n m h = tells_apart exact_unsigned n m h

pub same_at : (n m : ℕ) → n ≡ m → is_at (nat_cmp n) m ≡ true
same_at n m e = ap is_eq (sym (nat_cmp_is n m Equal e))

-- one number is put in
abbrev pub Puts : (ℕ → Bool) → (ℕ → Bool) → ℕ → Type 0
Puts now new k = (n : ℕ) → new n ≡ cond (is_at (nat_cmp k) n) true (now n)

pub put_there : (now new : ℕ → Bool) (k : ℕ) → Puts now new k → (n : ℕ) → k ≡ n → new n ≡ true
put_there now new k puts n e = puts n ∙ ap (λ b. cond b true (now n)) (same_at k n e)

pub put_keeps : (now new : ℕ → Bool) (k : ℕ) → Puts now new k → (n : ℕ) → now n ≡ true → new n ≡ true
put_keeps now new k puts n h =
    by_at (is_at (nat_cmp k) n) (λ at. put_there now new k puts n (at_same k n at)) (λ off. puts n ∙ ap (λ b. cond b true (now n)) off ∙ h)

pub put_only : (now new : ℕ → Bool) (k : ℕ) → Puts now new k → (n : ℕ) → new n ≡ true → (now n ≡ true) ⊎ (k ≡ n)
put_only now new k puts n h =
    by_at (is_at (nat_cmp k) n) (λ at. inr (at_same k n at)) (λ off. inl (sym (ap (λ b. cond b true (now n)) off) ∙ sym (puts n) ∙ h))

-- a set of numbers holds those of a list, with one more
pub seen_more : {X : Type 0} (number : X → ℕ) (old new : ℕ → Bool) (xs : List X) (x : X) → ((n : ℕ) → IsTrue (old n) ↔ SomeOf (λ (y : X). number y ≡ n) xs)
    → Puts old new (number x) → (n : ℕ) → IsTrue (new n) ↔ SomeOf (λ (y : X). number y ≡ n) (xs ++ x ∷ [])
seen_more {X} number old new xs x seen puts n = (
  λ t. ⊎_elim (λ o. some_left (λ (y : X). number y ≡ n) xs (x ∷ []) ((seen n).0 o)) (λ e. some_right (λ (y : X). number y ≡ n) xs (x ∷ []) (inl e)) (put_only old new (number x) puts n t),
  λ h.
      ⊎_elim (λ i. put_keeps old new (number x) puts n ((seen n).1 i)) (λ i. put_there old new (number x) puts n (some_one (λ (y : X). number y ≡ n) x i))
      (some_split (λ (y : X). number y ≡ n) xs (x ∷ []) h),
)

-- the number was there already
pub seen_known : (old new : ℕ → Bool) (xs : List ℕ) (k : ℕ) → ((n : ℕ) → IsTrue (old n) ↔ IsIn n xs) → old k ≡ true → Puts old new k → (n : ℕ) → IsTrue (new n) ↔ IsIn n xs
seen_known old new xs k seen known puts n = (
  λ t. ⊎_elim (λ o. (seen n).0 o) (λ (e : k ≡ n). (seen n).0 (subst (λ (m : ℕ). old m ≡ true) e known)) (put_only old new k puts n t),
  λ i. put_keeps old new k puts n ((seen n).1 i),
)

-- a list holds those of two, and one more of the second
pub added_new : (all first rest : List ℕ) (k : ℕ) → ((n : ℕ) → IsIn n all ↔ (IsIn n first ⊎ IsIn n rest)) → (n : ℕ) → IsIn n (all ++ k ∷ []) ↔ (IsIn n first ⊎ IsIn n (rest ++ k ∷ []))
added_new all first rest k h n = (
  λ i.
      ⊎_elim (λ a. ⊎_elim (λ f. inl f) (λ r. inr (some_left (λ (m : ℕ). m ≡ n) rest (k ∷ []) r)) ((h n).0 a)) (λ e. inr (some_right (λ (m : ℕ). m ≡ n) rest (k ∷ []) e))
      (some_split (λ (m : ℕ). m ≡ n) all (k ∷ []) i),
  λ i.
      ⊎_elim (λ f. some_left (λ (m : ℕ). m ≡ n) all (k ∷ []) ((h n).1 (inl f)))
      (λ r.
      ⊎_elim (λ s. some_left (λ (m : ℕ). m ≡ n) all (k ∷ []) ((h n).1 (inr s))) (λ e. some_right (λ (m : ℕ). m ≡ n) all (k ∷ []) e)
      (some_split (λ (m : ℕ). m ≡ n) rest (k ∷ []) r)) i,
)

pub added_known : (all first rest : List ℕ) (k : ℕ) → IsIn k all → ((n : ℕ) → IsIn n all ↔ (IsIn n first ⊎ IsIn n rest)) → (n : ℕ) → IsIn n all ↔ (IsIn n first ⊎ IsIn n (rest ++ k ∷ []))
added_known all first rest k known h n = (
  λ i. ⊎_elim (λ f. inl f) (λ r. inr (some_left (λ (m : ℕ). m ≡ n) rest (k ∷ []) r)) ((h n).0 i),
  λ i.
      ⊎_elim (λ f. (h n).1 (inl f))
      (λ r.
      ⊎_elim (λ s. (h n).1 (inr s)) (λ e. subst (λ (m : ℕ). IsIn m all) (some_one (λ (m : ℕ). m ≡ n) k e) known) (some_split (λ (m : ℕ). m ≡ n) rest (k ∷ []) r)) i,
)

-- the numbers of a list but for one, with one more that is another or not
pub without_more : (rest front : List ℕ) (but k : ℕ) → ¬ (k ≡ but) → ((n : ℕ) → IsIn n rest ↔ ((¬ (but ≡ n)) × IsIn n front)) → (n : ℕ) → IsIn n (rest ++ k ∷ []) ↔ ((¬ (but ≡ n)) × IsIn n (front ++ k ∷ []))
without_more rest front but k other h n = (
  λ i.
      ⊎_elim (λ r. let p = (h n).0 r in (p.0, some_left (λ (m : ℕ). m ≡ n) front (k ∷ []) p.1))
      (λ e. (λ (b : but ≡ n). other (some_one (λ (m : ℕ). m ≡ n) k e ∙ sym b), some_right (λ (m : ℕ). m ≡ n) front (k ∷ []) e))
      (some_split (λ (m : ℕ). m ≡ n) rest (k ∷ []) i),
  λ p.
      ⊎_elim (λ f. some_left (λ (m : ℕ). m ≡ n) rest (k ∷ []) ((h n).1 (p.0, f))) (λ e. some_right (λ (m : ℕ). m ≡ n) rest (k ∷ []) e)
      (some_split (λ (m : ℕ). m ≡ n) front (k ∷ []) p.1),
)

pub without_that : (rest front : List ℕ) (but k : ℕ) → k ≡ but → ((n : ℕ) → IsIn n rest ↔ ((¬ (but ≡ n)) × IsIn n front)) → (n : ℕ) → IsIn n rest ↔ ((¬ (but ≡ n)) × IsIn n (front ++ k ∷ []))
without_that rest front but k same h n = (
  λ r. let p = (h n).0 r in (p.0, some_left (λ (m : ℕ). m ≡ n) front (k ∷ []) p.1),
  λ p.
      ⊎_elim (λ f. (h n).1 (p.0, f)) (λ e. absurd (p.0 (sym same ∙ some_one (λ (m : ℕ). m ≡ n) k e)))
      (some_split (λ (m : ℕ). m ≡ n) front (k ∷ []) p.1),
)

-- the numbers of some members and of one more
pub union_more : {X : Type 0} (at : X → List ℕ) (new old : List ℕ) (xs : List X) (x : X) → ((n : ℕ) → IsIn n new ↔ (IsIn n old ⊎ IsIn n (at x))) → ((n : ℕ) → IsIn n old ↔ SomeOf (λ y. IsIn n (at y)) xs)
    → (n : ℕ) → IsIn n new ↔ SomeOf (λ y. IsIn n (at y)) (xs ++ x ∷ [])
union_more {X} at new old xs x added so_far n = (
  λ i.
      ⊎_elim (λ o. some_left (λ (y : X). IsIn n (at y)) xs (x ∷ []) ((so_far n).0 o)) (λ m. some_right (λ (y : X). IsIn n (at y)) xs (x ∷ []) (inl m))
      ((added n).0 i),
  λ s.
      (added n).1
      (⊎_elim (λ o. inl ((so_far n).1 o)) (λ m. inr (some_one (λ (y : X). IsIn n (at y)) x m)) (some_split (λ (y : X). IsIn n (at y)) xs (x ∷ []) s)),
)
