-- Walking downwards from a formula meets what stands in it.
use Rattle.std.proofs.Common.{◌≡◌, ℕ, ◌<◌, ◌≤◌, ◌+◌, max, nat_cmp, ◌⊎◌, inl, inr, ⊎_elim, Bool, true, false, List, [], ◌∷◌, ◌++◌, Some, slice_get, length, refl, ap, sym, ◌∙◌, subst, arith, true≢false}
use Rattle.std.proofs.lemmas.Bool.{cases_eq}
use Rattle.std.specs.List.{AllByRecursion, list_any}
use Rattle.std.specs.BTreeMap.{is_at}
use Rattle.std.proofs.lemmas.Bool.Decides.{nat_tests}
use Rattle.logic_meaning.specs.Some.{SomeOf, Among}
use Rattle.formula_tree.specs.declared.shape.Shape.{Shape}
use Rattle.formula_tree.specs.Shapes.{ids_of}
use Rattle.formula_tree.proofs.Shapes.{all_listed}
use Rattle.formula_store.specs.declared.id.FormulaId.{FormulaId}
use Rattle.formula_store.specs.Nodes.{AreNodes}
use Rattle.formula_store.specs.Order.{Within, WithinSome, itself, inside, Rises, IsOrder, IsLooked, Meets, Takes, Walks}
use Rattle.formula_store.proofs.Marked.{all_on, among_all, some_left, some_right, some_either}

pub same_id : (x y : FormulaId) → x.number ≡ y.number → x ≡ y
same_id x y e = λ i. record { number = e i }

-- where P holds of what is in a list, it holds of each
all_that : (P : FormulaId → Type 0) (xs : List FormulaId) → ((x : FormulaId) → Among xs x → P x) → AllByRecursion P xs
all_that P [] h = tt
all_that P (x ∷ xs) h = (h x (inl refl), all_that P xs (λ y p. h y (inr p)))

list_any_first : (k : ℕ) (ks : List ℕ) → list_any (is_at (nat_cmp k)) (k ∷ ks) ≡ true
list_any_first k ks = grind (arith, nat_tests)

list_any_rest : (j k : ℕ) (ks : List ℕ) → list_any (is_at (nat_cmp j)) ks ≡ true → list_any (is_at (nat_cmp j)) (k ∷ ks) ≡ true
list_any_rest j k ks h = grind arith

-- what has P is among them, and so has what all of them have
pub some_has : (P Q : FormulaId → Type 0) (xs : List FormulaId) → SomeOf P xs → AllByRecursion Q xs → (x : FormulaId) × P x × Q x × SomeOf (λ i. i ≡ x) xs
some_has P Q [] h k = absurd h
some_has P Q (x ∷ xs) (inl h) k = (x, h, k.0, inl refl)
some_has P Q (x ∷ xs) (inr h) k = let r = some_has P Q xs h k.1 in (r.0, r.1, r.2, inr r.3)

module _ (nodes : List (Shape FormulaId)) where
  -- a member of what stands in a formula stands in it
  pub within_then : (r a m : FormulaId) (n : Shape FormulaId) → Within nodes r a → slice_get nodes a.number ≡ Some n → SomeOf (λ i. i ≡ m) (ids_of n) → Within nodes r m
  within_then r a m n itself e s = inside n e s itself
  within_then r a m n (inside {m = k} o f t w) e s = inside o f t (within_then k a m n w e s)

  pub some_then : (roots : List FormulaId) (a m : FormulaId) (n : Shape FormulaId) → WithinSome nodes roots a → slice_get nodes a.number ≡ Some n → SomeOf (λ i. i ≡ m) (ids_of n) → WithinSome nodes roots m
  some_then [] a m n h e s = absurd h
  some_then (r ∷ roots) a m n (inl w) e s = inl (within_then r a m n w e s)
  some_then (r ∷ roots) a m n (inr h) e s = inr (some_then roots a m n h e s)

  own_root : (roots : List FormulaId) (x : FormulaId) → Among roots x → WithinSome nodes roots x
  own_root [] x h = absurd h
  own_root (r ∷ roots) x (inl e) = inl (subst (λ y. Within nodes r y) e itself)
  own_root (r ∷ roots) x (inr h) = inr (own_root roots x h)

  module _ (roots : List FormulaId) where
    -- what waits is one of the ids, whose numbers are below n
    number_among : (ids : List FormulaId) (n k : ℕ) → AllByRecursion (λ (id : FormulaId). id.number < n) ids → SomeOf (λ (id : FormulaId). id.number ≡ k) ids → (k < n) × Among ids (record { number = k })
    number_among ids n k are p =
        let r = some_has (λ (id : FormulaId). id.number ≡ k) (λ (id : FormulaId). id.number < n) ids p are in
        (omega (arith, r.1, r.2), subst (Among ids) (same_id r.0 (record { number = k }) r.1) r.3)

    -- an id that has been looked at waits, or its members are met
    looked_closed : (waiting : ℕ → Bool) (met : List FormulaId) (x : FormulaId) (n : Shape FormulaId) → IsLooked nodes waiting x → slice_get nodes x.number ≡ Some n → (waiting x.number ≡ true) ⊎ AllByRecursion (Among met) (ids_of n)
    looked_closed waiting met x n h e = ⊎_elim (λ p. inl p) (λ p. inr (subst (AllByRecursion (Among met)) (sym (p n e)) tt)) h

    -- the formulas themselves are met
    pub start : AllByRecursion (λ (r : FormulaId). r.number < length nodes) roots → (none new : ℕ → Bool) → ((k : ℕ) → none k ≡ false) → Meets nodes roots none new → Walks nodes roots new roots
    start are none new empty m = record {
      waits_met = λ k h. ⊎_elim (λ p. absurd (true≢false (sym p ∙ empty k))) (λ p. (number_among roots (length nodes) k are p).1) (m.none_else k h);
      sound = λ x h. (among_all (λ (r : FormulaId). r.number < length nodes) roots x are h, own_root roots x h);
      roots_met = all_that (Among roots) roots (λ x h. h);
      closed = λ x n h e. looked_closed new roots x n (among_all (IsLooked nodes new) roots x m.these h) e;
    }

    -- one node further down, which has the number k
    module _ (are : AreNodes nodes) (k : ℕ) (n : Shape FormulaId) (here : slice_get nodes k ≡ Some n) (old less new : ℕ → Bool) (met : List FormulaId) (t : Takes k old less) (m : Meets nodes (ids_of n) less new) (h : Walks nodes roots old met) where
      top : FormulaId
      top = record { number = k }

      members_below : AllByRecursion (λ (id : FormulaId). id.number < k) (ids_of n)
      members_below = all_listed (λ (id : FormulaId). id.number < k) n (are.below k n here)

      -- what waits now waited, and is another, or is a member
      either_waits : (i : ℕ) → new i ≡ true → ((old i ≡ true) × (i < k)) ⊎ ((i < k) × Among (ids_of n) (record { number = i }))
      either_waits i w =
          ⊎_elim
          (λ p. inl (⊎_elim (λ (e : i ≡ k). absurd (true≢false (sym (subst (λ j. less j ≡ true) e p) ∙ t.gone))) (λ (e : ¬ (i ≡ k)). let o : old i ≡ true = sym (t.others i e) ∙ p in (o, (let l = t.greatest i o in omega arith))) (cases_eq i k)))
          (λ p. inr (number_among (ids_of n) k i members_below p))
          (m.none_else i w)

      pub below_top : (i : ℕ) → new i ≡ true → i < k
      below_top i w = ⊎_elim (λ p. p.1) (λ p. p.0) (either_waits i w)

      at_top : (k < length nodes) × WithinSome nodes roots top
      unfolding top
      at_top = h.sound top (h.waits_met k t.was)

      step_sound : (x : FormulaId) → Among met x ⊎ Among (ids_of n) x → (x.number < length nodes) × WithinSome nodes roots x
      unfolding top
      step_sound x (inl p) = h.sound x p
      step_sound x (inr p) = (let l = among_all (λ (id : FormulaId). id.number < k) (ids_of n) x members_below p in let b = at_top.0 in omega arith, some_then roots top x n at_top.1 here p)

      -- what was met is met
      still : (x : FormulaId) → Among met x → Among (met ++ ids_of n) x
      still x p = some_left (λ i. i ≡ x) met (ids_of n) p

      also : (x : FormulaId) → Among (ids_of n) x → Among (met ++ ids_of n) x
      also x p = some_right (λ i. i ≡ x) met (ids_of n) p

      -- a node that waited waits, or is the one that was taken
      step_closed : (x : FormulaId) (o : Shape FormulaId) → Among met x ⊎ Among (ids_of n) x → slice_get nodes x.number ≡ Some o → (new x.number ≡ true) ⊎ AllByRecursion (Among (met ++ ids_of n)) (ids_of o)
      step_closed x o (inr p) e = looked_closed new (met ++ ids_of n) x o (among_all (IsLooked nodes new) (ids_of n) x m.these p) e
      step_closed x o (inl p) e =
          ⊎_elim
          (λ w. ⊎_elim
          (λ (q : x.number ≡ k).
          let same : n ≡ o = (let s : Some n ≡ Some o = sym here ∙ ap (slice_get nodes) (sym q) ∙ e in cc) in
          inr (subst (λ s. AllByRecursion (Among (met ++ ids_of n)) (ids_of s)) same (all_that (Among (met ++ ids_of n)) (ids_of n) also)))
          (λ (q : ¬ (x.number ≡ k)). inl (m.kept x.number (t.others x.number q ∙ w)))
          (cases_eq x.number k))
          (λ w. inr (all_on (Among met) (Among (met ++ ids_of n)) still (ids_of o) w))
          (h.closed x o p e)

      pub step : Walks nodes roots new (met ++ ids_of n)
      step = record {
        waits_met = λ i w. ⊎_elim (λ p. still (record { number = i }) (h.waits_met i p.0)) (λ p. also (record { number = i }) p.1) (either_waits i w);
        sound = λ x p. step_sound x (some_either (λ i. i ≡ x) met (ids_of n) p);
        roots_met = all_on (Among met) (Among (met ++ ids_of n)) still roots h.roots_met;
        closed = λ x o p e. step_closed x o (some_either (λ i. i ≡ x) met (ids_of n) p) e;
      }

    -- where nothing waits any more, what is met is all, and so are ids that rise and are the same
    module _ (waiting : ℕ → Bool) (met ids : List FormulaId) (empty : (k : ℕ) → waiting k ≡ false) (h : Walks nodes roots waiting met) where
      all_met : (a x : FormulaId) → Among met a → Within nodes a x → Among met x
      all_met a x m itself = m
      all_met a x m (inside {m = b} n e s w) =
          all_met b x (among_all (Among met) (ids_of n) b (⊎_elim (λ p. absurd (true≢false (sym p ∙ empty a.number))) (λ p. p) (h.closed a n m e)) s) w

      some_met : (rs : List FormulaId) → AllByRecursion (Among met) rs → (x : FormulaId) → WithinSome nodes rs x → Among met x
      some_met [] k x w = absurd w
      some_met (r ∷ rs) k x (inl w) = all_met r x k.0 w
      some_met (r ∷ rs) k x (inr w) = some_met rs k.1 x w

      pub finish : Rises ids → ((x : FormulaId) → Among met x → Among ids x) → ((x : FormulaId) → Among ids x → Among met x) → IsOrder nodes roots ids
      finish rises to from = record {
        rises = rises;
        all = λ x w. to x (some_met roots h.roots_met x w);
        only = all_that (WithinSome nodes roots) ids (λ x p. (h.sound x (from x p)).1);
      }

-- a number above those of a list, and the least such
abbrev pub number_above : List ℕ → ℕ
number_above [] = 0
number_above (k ∷ ks) = max (k + 1) (number_above ks)

pub above_last : (ks : List ℕ) (k : ℕ) → k < number_above (ks ++ k ∷ [])
above_last [] k = omega arith
above_last (j ∷ ks) k = let h = above_last ks k in omega arith

pub least_above : (n : ℕ) (ks : List ℕ) → ((k : ℕ) → list_any (is_at (nat_cmp k)) ks ≡ true → k < n) → number_above ks ≤ n
least_above n [] h = omega arith
least_above n (k ∷ ks) h =
    let first : k < n = h k (list_any_first k ks) in
    let rest = least_above n ks (λ j p. h j (list_any_rest j k ks p)) in
    omega arith
