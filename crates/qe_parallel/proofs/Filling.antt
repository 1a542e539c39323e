-- Filling a list in any order gives the list of answers.
use Rattle.std.proofs.Common.{◌≡◌, ℕ, zero, suc, ◌+◌, ◌<◌, List, [], ◌∷◌, Option, Some, None, ◌⊎◌, inl, inr, length, map, replicate, ap, ap₂, sym, ◌∙◌, refl, arith, subst, get_or}
use Rattle.std.specs.Prelude.{slice_get, slice_set}
use Rattle.std.proofs.lemmas.Bool.{cases_eq}
use Rattle.std.proofs.lemmas.List.{length-set, length-replicate, get_or-set_same, get_or-set_other}
use Rattle.qe_parallel.specs.Orders.{filled, EveryOrderGivesOneList}
use Rattle.qe_parallel.proofs.Runs.{place_there}

same_reads : {X : Type 0} (xs ys : List X) → length xs ≡ length ys → ((k : ℕ) (d : X) → k < length xs → get_or xs k d ≡ get_or ys k d) → xs ≡ ys
same_reads [] [] e h = refl
same_reads [] (y ∷ ys) e h = absurd (omega arith)
same_reads (x ∷ xs) [] e h = absurd (omega arith)
same_reads (x ∷ xs) (y ∷ ys) e h = ap₂ ◌∷◌ (h 0 x (omega arith)) (same_reads xs ys (omega arith) (λ k d l. h (suc k) d (omega arith)))

length-map_some : {X : Type 0} (xs : List X) → length (map {B = Option X} Some xs) ≡ length xs
length-map_some [] = refl
length-map_some (x ∷ xs) = ap suc (length-map_some xs)

read_some : {X : Type 0} (xs : List X) (k : ℕ) (x : X) (d : Option X) → slice_get xs k ≡ Some x → get_or (map {B = Option X} Some xs) k d ≡ Some x
read_some [] zero x d h = absurd (cc)
read_some [] (suc k) x d h = absurd (cc)
read_some (y ∷ xs) zero x d h = h
read_some (y ∷ xs) (suc k) x d h = read_some xs k x d h

module _ {Out : Type 0} (answer : ℕ → Out) where
  same_length : (order : List ℕ) (slots : List (Option Out)) → length (filled answer order slots) ≡ length slots
  same_length [] slots = refl
  same_length (i ∷ order) slots = same_length order (slice_set slots i (Some (answer i))) ∙ length-set slots i (Some (answer i))

  -- a piece that is put at its number stays there
  settled : (order : List ℕ) (slots : List (Option Out)) (k : ℕ) (d : Option Out) → k < length slots → get_or slots k d ≡ Some (answer k) → get_or (filled answer order slots) k d ≡ Some (answer k)
  settled [] slots k d l h = h
  settled (i ∷ order) slots k d l h =
      settled order (slice_set slots i (Some (answer i))) k d (subst (λ n. k < n) (sym (length-set slots i (Some (answer i)))) l) (put (cases_eq k i))
    where
      put : (k ≡ i) ⊎ (k ≡ i → ⊥) → get_or (slice_set slots i (Some (answer i))) k d ≡ Some (answer k)
      put (inl e) = subst (λ j. get_or (slice_set slots i (Some (answer i))) j d ≡ Some (answer j)) (sym e) (get_or-set_same slots i (Some (answer i)) d (subst (λ j. j < length slots) e l))
      put (inr n) = get_or-set_other slots i k (Some (answer i)) d n ∙ h

  -- each piece of the order is put at its number
  reached : (order : List ℕ) (slots : List (Option Out)) (k j : ℕ) (d : Option Out) → k < length slots → j < length order → get_or order j k ≡ k → get_or (filled answer order slots) k d ≡ Some (answer k)
  reached [] slots k j d l m h = absurd (omega arith)
  reached (i ∷ order) slots k zero d l m h =
      settled order (slice_set slots i (Some (answer i))) k d (subst (λ n. k < n) (sym (length-set slots i (Some (answer i)))) l)
      (subst (λ (n : ℕ). get_or (slice_set slots i (Some (answer i))) n d ≡ Some (answer n)) h (get_or-set_same slots i (Some (answer i)) d (subst (λ n. n < length slots) (sym h) l)))
  reached (i ∷ order) slots k (suc j) d l m h =
      reached order (slice_set slots i (Some (answer i))) k j d (subst (λ n. k < n) (sym (length-set slots i (Some (answer i)))) l) (omega arith) h

pub every_order_gives_one_list : {Out : Type 0} (R : ℕ → Out → Type 0) → EveryOrderGivesOneList R
every_order_gives_one_list {Out} R outs answer order one answers given is_order =
    same_reads (filled answer order (replicate (length outs) None)) (map Some outs) lengths reads
  where
    start : length (replicate {A = Option Out} (length outs) None) ≡ length outs
    start = length-replicate (length outs) None

    lengths : length (filled answer order (replicate (length outs) None)) ≡ length (map {B = Option Out} Some outs)
    lengths = same_length answer order (replicate (length outs) None) ∙ length-replicate (length outs) None ∙ sym (length-map_some outs)

    reads : (k : ℕ) (d : Option Out) → k < length (filled answer order (replicate (length outs) None)) → get_or (filled answer order (replicate (length outs) None)) k d ≡ get_or (map {B = Option Out} Some outs) k d
    reads k d l =
        let inside = subst (λ n. k < n) (same_length answer order (replicate (length outs) None)) l in
        let below = subst (λ n. k < n) (length-replicate {A = Option Out} (length outs) None) inside in
        let there = is_order.every k below in
        let found = place_there outs k below in
        let here = subst (λ j. R j found.0) (let e : 0 + k ≡ k = omega arith in e) (answers k found.0 found.1) in
        reached answer order (replicate (length outs) None) k there.0 d inside there.1 there.2
        ∙ ap Some (one k (answer k) found.0 below (given k below) here) ∙ sym (read_some outs k found.0 d found.1)
