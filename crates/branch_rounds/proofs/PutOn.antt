-- Branches put behind others, in some order.
use Rattle.std.proofs.Common.{◌≡◌, ℕ, zero, suc, ◌<◌, List, [], ◌∷◌, ◌++◌, map, length, get_or, subst, arith}
use Rattle.std.specs.Prelude.{reverse}
use Rattle.std.specs.List.Sorted.{IsPermutation}
use Rattle.std.proofs.lemmas.List.Sorted.{All-permutation, IsPermutation-sym, IsPermutation-trans, IsPermutation-map, IsPermutation-reverse, length_permutation}
use Rattle.logic_meaning.specs.Some.{Among, EachOf}
use Rattle.elimination_theory.proofs.SomeListed.{each_among}
use Rattle.case_theory.proofs.Lists.{each_from}
use Rattle.branch_rounds.specs.Branches.{Seen}
use Rattle.branch_rounds.specs.Turns.{ArePutOn}

module _ {X : Type 0} (P : X → Type 0) where
  by_index : (xs : List X) → EachOf P xs → (k : ℕ) (d : X) → k < length xs → P (get_or xs k d)
  by_index [] h k d lt = absurd (omega (arith, lt))
  by_index (x ∷ xs) h zero d lt = h.0
  by_index (x ∷ xs) h (suc k) d lt = by_index xs h.1 k d (omega (arith, lt))

  from_index : (xs : List X) → ((k : ℕ) (d : X) → k < length xs → P (get_or xs k d)) → EachOf P xs
  from_index [] h = tt
  from_index (x ∷ xs) h = (h 0 x (omega arith), from_index xs (λ k d lt. h (suc k) d (omega (arith, lt))))

pub each_turned : {X : Type 0} (P : X → Type 0) (xs ys : List X) → IsPermutation xs ys → EachOf P xs → EachOf P ys
each_turned P xs ys p h = from_index P ys (All-permutation P xs ys p (by_index P xs h))

-- another order has the same elements
among_moved : {X : Type 0} (xs ys : List X) → IsPermutation xs ys → (x : X) → Among ys x → Among xs x
among_moved xs ys p x m = each_among (Among xs) ys x (each_turned (Among xs) xs ys p (each_from (Among xs) xs (λ y n. n))) m

pub are_put_on : {X : Type 0} (branch : X → Seen) (old next new : List Seen) (before after : List X) → map branch before ≡ reverse next → IsPermutation before after → new ≡ old ++ map branch after → ArePutOn old next new
are_put_on branch old next new before after e p is =
    let top = map branch after in
    let same : IsPermutation next top = IsPermutation-trans next (reverse next) top (IsPermutation-reverse next) (subst (λ (l : List Seen). IsPermutation l top) e (IsPermutation-map branch before after p)) in
    record { top = top; is = is; count = length_permutation next top same; same = λ b. (among_moved next top same b, among_moved top next (IsPermutation-sym next top same) b) }
