-- The members of a list of ids stay as it is sorted and each is kept once, and then the ids rise.
use Rattle.std.proofs.Common.{◌≡◌, ℕ, zero, suc, ◌<◌, inl, inr, List, [], ◌∷◌, length, sym, subst, arith, nat_cmp, Contains, IsPermutation, IsSorted, slice_index_or, Ordering}
use Rattle.std.specs.Cmp.{on_total, on_equiv, nat_cmp_total, nat_eq_equiv, unsigned_ties}
use Rattle.std.specs.List.{dedup}
use Rattle.std.specs.declared.cmp.Ordering.TheVariants.{Less}
use Rattle.std.specs.List.Sorted.{IsStrictlySortedBy}
use Rattle.std.specs.List.Retain.{IsFiltered, DiffersFromLast}
use Rattle.std.proofs.lemmas.Bool.Decides.{nat_tests}
use Rattle.std.proofs.lemmas.List.Filters.{dedup_is}
use Rattle.std.proofs.lemmas.List.Kept.{IsStrictlySortedBy-dedup, Contains-dedup, Contains-from_dedup}
use Rattle.std.proofs.lemmas.List.Sorted.{Contains-permutation, IsPermutation-sym}
use Rattle.std.proofs.lemmas.Map.Keys.{sorted_head, sorted_tail}
use Rattle.logic_meaning.specs.Some.{Among}
use Rattle.formula_store.specs.declared.id.FormulaId.{FormulaId}
use Rattle.formula_store.specs.Order.{Rises}
use Rattle.normal_forms.specs.Atoms.{same_id}
use Rattle.normal_forms.specs.Sieves.{IsSortedOf}
use Rattle.normal_forms.proofs.Members.{same_is}

abbrev number_cmp : FormulaId → FormulaId → Ordering
number_cmp x y = nat_cmp x.number y.number

some_at : (xs : List FormulaId) (x : FormulaId) (k : ℕ) → k < length xs → slice_index_or xs k x ≡ x → Among xs x
some_at [] x k l e = absurd (omega arith)
some_at (y ∷ xs) x zero l e = inl e
some_at (y ∷ xs) x (suc k) l e = inr (some_at xs x k (omega arith) e)

from_contained : (xs : List FormulaId) (x : FormulaId) → Contains xs x → Among xs x
from_contained xs x h = some_at xs x h.0 h.1 h.2

contained : (xs : List FormulaId) (x : FormulaId) → Among xs x → Contains xs x
contained [] x h = absurd h
contained (y ∷ xs) x (inl e) = (0, omega arith, e)
contained (y ∷ xs) x (inr h) = let c = contained xs x h in (suc c.0, (let l = c.1 in omega arith), c.2)

below : (m n : ℕ) → nat_cmp m n ≡ Less → m < n
below m n e = grind (arith, nat_tests)

rises : (xs : List FormulaId) → IsStrictlySortedBy number_cmp xs → Rises xs
rises [] h = tt
rises (x ∷ []) h = tt
rises (x ∷ y ∷ xs) h = (below x.number y.number (sorted_head number_cmp x (y ∷ xs) h).0, rises (y ∷ xs) (sorted_tail number_cmp x (y ∷ xs) h))

pub sorted_of : (line xs ys zs : List FormulaId) → xs ≡ line → IsPermutation xs ys → IsSorted number_cmp ys → IsFiltered (DiffersFromLast same_id) [] ys zs → IsSortedOf line zs
sorted_of line xs ys zs from moved sorted kept =
    let once : zs ≡ dedup same_id ys = dedup_is same_id ys zs kept in
    record {
      rises = subst Rises (sym once) (rises (dedup same_id ys) (IsStrictlySortedBy-dedup (on_total (λ (x : FormulaId). x.number) nat_cmp_total) (λ x y. unsigned_ties x.number y.number) ys sorted));
      all = λ x h. subst (λ (is : List FormulaId). Among is x) (sym once)
          (from_contained (dedup same_id ys) x (Contains-dedup (on_equiv (λ (i : FormulaId). i.number) nat_eq_equiv) same_is ys x
          (Contains-permutation xs ys x moved (contained xs x (subst (λ (is : List FormulaId). Among is x) (sym from) h)))));
      only = λ x h. subst (λ (is : List FormulaId). Among is x) from
          (from_contained xs x (Contains-permutation ys xs x (IsPermutation-sym xs ys moved)
          (Contains-from_dedup same_id ys x (contained (dedup same_id ys) x (subst (λ (is : List FormulaId). Among is x) once h)))));
    }
