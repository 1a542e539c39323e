-- Ids that wait as well.
use Rattle.std.proofs.Common.{not, true≢false, ◌≡◌, ℕ, ◌+◌, ◌<◌, inl, inr, ⊎_elim, Bool, true, false, List, [], ◌∷◌, ◌++◌, length, get_or, Some, slice_get, refl, sym, ◌∙◌, subst, take, nat_cmp, ◌≤◌, arith}
use Rattle.std.proofs.lemmas.List.{take_more}
use Rattle.std.specs.BTreeMap.{is_at}
use Rattle.std.specs.Ordering.{is_lt}
use Rattle.std.proofs.lemmas.Bool.{cases_eq}
use Rattle.std.proofs.lemmas.Bool.Decides.{nat_tests}
use Rattle.formula_tree.specs.declared.shape.Shape.{Shape}
use Rattle.formula_tree.specs.Shapes.{ids_of}
use Rattle.formula_store.specs.declared.id.FormulaId.{FormulaId}
use Rattle.formula_tree.specs.declared.shape.Shape.TheVariants as shape
use Rattle.formula_store.specs.Order.{is_leaf, IsLooked, Adds, Meets}
use Rattle.formula_store.proofs.Marked.{all_on, all_joined, some_left, some_right}

module _ (nodes : List (Shape FormulaId)) where
  pub meets_none : (w : ℕ → Bool) → Meets nodes [] w w
  meets_none w = record { kept = λ k h. h; these = tt; none_else = λ k h. inl h }

  looked_still : (a b : ℕ → Bool) → ((k : ℕ) → a k ≡ true → b k ≡ true) → (x : FormulaId) → IsLooked nodes a x → IsLooked nodes b x
  looked_still a b k x h = ⊎_elim (λ p. inl (k x.number p)) (λ p. inr p) h

  meets_then : (xs ys : List FormulaId) (a b c : ℕ → Bool) → Meets nodes xs a b → Meets nodes ys b c → Meets nodes (xs ++ ys) a c
  meets_then xs ys a b c m n = record {
    kept = λ k h. n.kept k (m.kept k h);
    these = all_joined (IsLooked nodes c) xs ys (all_on (IsLooked nodes b) (IsLooked nodes c) (looked_still b c n.kept) xs m.these) n.these;
    none_else = λ k h. ⊎_elim (λ l. ⊎_elim (λ p. inl p) (λ p. inr (some_left (λ id. id.number ≡ k) xs ys p)) (m.none_else k l)) (λ p. inr (some_right (λ id. id.number ≡ k) xs ys p)) (n.none_else k h);
  }

  -- one in which something may stand
  pub meets_added : (id : FormulaId) (a b : ℕ → Bool) → Adds id a b → Meets nodes (id ∷ []) a b
  meets_added id a b h = record {
    kept = λ k w. ⊎_elim (λ (e : k ≡ id.number). subst (λ j. b j ≡ true) (sym e) h.here) (λ (n : ¬ (k ≡ id.number)). h.others k n ∙ w) (cases_eq k id.number);
    these = (inl h.here, tt);
    none_else = λ k w. ⊎_elim (λ (e : k ≡ id.number). inr (inl (sym e))) (λ (n : ¬ (k ≡ id.number)). inl (sym (h.others k n) ∙ w)) (cases_eq k id.number);
  }

  -- one in which nothing stands
  pub meets_leaf : (id : FormulaId) (w : ℕ → Bool) → ((n : Shape FormulaId) → slice_get nodes id.number ≡ Some n → ids_of n ≡ []) → Meets nodes (id ∷ []) w w
  meets_leaf id w h = record { kept = λ k p. p; these = (inr h, tt); none_else = λ k p. inl p }

  -- one more of a list
  pub meets_next : (ids : List FormulaId) (i : ℕ) (d : FormulaId) (a b c : ℕ → Bool) → i < length ids → Meets nodes (take i ids) a b → Meets nodes (get_or ids i d ∷ []) b c → Meets nodes (take (i + 1) ids) a c
  meets_next ids i d a b c h m n = rw (take_more ids i d h) (meets_then (take i ids) (get_or ids i d ∷ []) a b c m n)

-- another number is not the one that a set finds
pub elsewhere : (k q : ℕ) → ¬ (q ≡ k) → is_at (nat_cmp k) q ≡ false
elsewhere k q n = grind (arith, nat_tests)

pub at_most : (k q : ℕ) → is_lt (nat_cmp k q) ≡ false → q ≤ k
at_most k q h = grind (arith, nat_tests)

pub no_keys : (ks : List ℕ) → ¬ (0 < length ks) → ks ≡ []
no_keys [] h = refl
no_keys (k ∷ ks) h = absurd (h (omega arith))

none_in : (n : Shape FormulaId) → not (is_leaf n) ≡ false → ids_of n ≡ []
none_in shape.True h = refl
none_in shape.False h = refl
none_in (shape.One a) h = refl
none_in (shape.And ids) h = absurd (true≢false h)
none_in (shape.Or ids) h = absurd (true≢false h)
none_in (shape.Not f) h = absurd (true≢false h)
none_in (shape.Impl f g) h = absurd (true≢false h)
none_in (shape.Repl f g) h = absurd (true≢false h)
none_in (shape.Equiv f g) h = absurd (true≢false h)
none_in (shape.Ex x f) h = absurd (true≢false h)
none_in (shape.All x f) h = absurd (true≢false h)

-- nothing stands in a node of such a shape
pub nothing_inside : (nodes : List (Shape FormulaId)) (id : FormulaId) (n : Shape FormulaId) → slice_get nodes id.number ≡ Some n → not (is_leaf n) ≡ false → (m : Shape FormulaId) → slice_get nodes id.number ≡ Some m → ids_of m ≡ []
nothing_inside nodes id n here h m e =
    let same : n ≡ m = (let s : Some n ≡ Some m = sym here ∙ e in cc) in
    subst (λ k. ids_of k ≡ []) same (none_in n h)
