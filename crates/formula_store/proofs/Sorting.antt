-- Ids that are sorted, and then each kept once.
use Rattle.std.proofs.Common.{◌≡◌, ℕ, zero, suc, ◌<◌, inl, inr, Bool, true, List, [], ◌∷◌, length, sym, subst, arith, nat_cmp, nat_eq, eqb-true, Contains, IsPermutation, IsSorted, slice_index_or, Ordering}
use Rattle.std.specs.Cmp.{on_total, on_equiv, nat_cmp_total, nat_eq_equiv, unsigned_ties}
use Rattle.std.specs.List.{dedup}
use Rattle.std.specs.declared.cmp.Ordering.TheVariants.{Less}
use Rattle.std.specs.List.Sorted.{IsStrictlySortedBy}
use Rattle.std.specs.List.Retain.{IsFiltered, DiffersFromLast}
use Rattle.std.proofs.lemmas.Bool.Decides.{nat_tests}
use Rattle.std.proofs.lemmas.List.Filters.{dedup_is}
use Rattle.std.proofs.lemmas.List.Kept.{IsStrictlySortedBy-dedup, Contains-dedup, Contains-from_dedup}
use Rattle.std.proofs.lemmas.List.Sorted.{Contains-permutation, IsPermutation-sym}
use Rattle.std.proofs.lemmas.Map.Keys.{sorted_head, sorted_tail}
use Rattle.logic_meaning.specs.Some.{SomeOf}
use Rattle.formula_store.specs.declared.id.FormulaId.{FormulaId}
use Rattle.formula_store.specs.Order.{Rises}

abbrev number_cmp : FormulaId → FormulaId → Ordering
number_cmp x y = nat_cmp x.number y.number

abbrev number_eq : FormulaId → FormulaId → Bool
number_eq x y = nat_eq x.number y.number

some_at : (xs : List FormulaId) (x : FormulaId) (k : ℕ) → k < length xs → slice_index_or xs k x ≡ x → SomeOf (λ i. i ≡ x) xs
some_at [] x k l e = absurd (omega arith)
some_at (y ∷ xs) x zero l e = inl e
some_at (y ∷ xs) x (suc k) l e = inr (some_at xs x k (omega arith) e)

from_contained : (xs : List FormulaId) (x : FormulaId) → Contains xs x → SomeOf (λ i. i ≡ x) xs
from_contained xs x h = some_at xs x h.0 h.1 h.2

contained : (xs : List FormulaId) (x : FormulaId) → SomeOf (λ i. i ≡ x) xs → Contains xs x
contained [] x h = absurd h
contained (y ∷ xs) x (inl e) = (0, omega arith, e)
contained (y ∷ xs) x (inr h) = let c = contained xs x h in (suc c.0, (let l = c.1 in omega arith), c.2)

below : (m n : ℕ) → nat_cmp m n ≡ Less → m < n
below m n e = grind (arith, nat_tests)

rises : (xs : List FormulaId) → IsStrictlySortedBy number_cmp xs → Rises xs
rises [] h = tt
rises (x ∷ []) h = tt
rises (x ∷ y ∷ xs) h = (below x.number y.number (sorted_head number_cmp x (y ∷ xs) h).0, rises (y ∷ xs) (sorted_tail number_cmp x (y ∷ xs) h))

same_number : (x y : FormulaId) → nat_eq x.number y.number ≡ true → x ≡ y
same_number x y e = let n : x.number ≡ y.number = eqb-true x.number y.number e in λ i. record { number = n i }

module _ (xs ys zs : List FormulaId) (moved : IsPermutation xs ys) (kept : IsFiltered (DiffersFromLast number_eq) [] ys zs) where
  pub sorted_rises : IsSorted number_cmp ys → Rises zs
  sorted_rises sorted =
      subst Rises (sym (dedup_is number_eq ys zs kept))
      (rises (dedup number_eq ys) (IsStrictlySortedBy-dedup (on_total (λ (x : FormulaId). x.number) nat_cmp_total) (λ x y. unsigned_ties x.number y.number) ys sorted))

  pub still_there : (x : FormulaId) → SomeOf (λ i. i ≡ x) xs → SomeOf (λ i. i ≡ x) zs
  still_there x h =
      subst (λ (is : List FormulaId). SomeOf (λ i. i ≡ x) is) (sym (dedup_is number_eq ys zs kept))
      (from_contained (dedup number_eq ys) x (Contains-dedup (on_equiv (λ (i : FormulaId). i.number) nat_eq_equiv) same_number ys x (Contains-permutation xs ys x moved (contained xs x h))))

  pub there_before : (x : FormulaId) → SomeOf (λ i. i ≡ x) zs → SomeOf (λ i. i ≡ x) xs
  there_before x h =
      from_contained xs x
      (Contains-permutation ys xs x (IsPermutation-sym xs ys moved)
      (Contains-from_dedup number_eq ys x (contained (dedup number_eq ys) x (subst (λ (is : List FormulaId). SomeOf (λ i. i ≡ x) is) (dedup_is number_eq ys zs kept) h))))
