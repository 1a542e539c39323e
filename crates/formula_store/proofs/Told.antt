-- The truth of a formula from those of its members.
use Rattle.std.proofs.Common.{◌≡◌, ℕ, zero, suc, ◌+◌, ◌<◌, take, length, arith, Bool, true, false, not, ◌||◌, ◌⊎◌, inl, inr, ⊎_elim, List, [], ◌∷◌, ◌++◌, map, refl, sym, subst, ◌↔◌, IsTrue, true≢false, get_or}
use Rattle.std.proofs.lemmas.List.{take_more}
use Rattle.std.specs.Bool.{beq}
use Rattle.std.specs.List.{AllByRecursion}
use Rattle.logic_meaning.specs.Context.{Context}
use Rattle.logic_meaning.specs.Point.{Point}
use Rattle.logic_meaning.specs.Formula.{Not, And, Or, Impl, Repl, Equiv}
use Rattle.logic_meaning.specs.Some.{SomeOf}
use Rattle.logic_meaning.specs.Tree.{Tree, TrueAt}
use Rattle.formula_store.specs.declared.id.FormulaId.{FormulaId}
use Rattle.formula_tree.specs.Trees.{members}
use Rattle.formula_store.specs.Truths.{Tells}

pub same_truths : (a b : Bool) → beq a b ≡ true → a ≡ b
same_truths true true e = refl
same_truths false false e = refl
same_truths true false e = absurd (true≢false (sym e))
same_truths false true e = absurd (true≢false (sym e))

pub other_truths : (a b : Bool) → beq a b ≡ false → ¬ (a ≡ b)
other_truths true true e = absurd (true≢false e)
other_truths false false e = absurd (true≢false e)
other_truths true false e = true≢false
other_truths false true e = λ k. true≢false (sym k)

pub not_tells : (b : Bool) (f : Tree) (p : Point ℕ) → Tells b f p → Tells (not b) (Not f) p
not_tells true f p h = λ c k. k (h c)
not_tells false f p h = λ c. h c

pub impl_tells : (a b : Bool) (f g : Tree) (p : Point ℕ) → Tells a f p → Tells b g p → Tells (not a || b) (Impl f g) p
impl_tells true true f g p h k = λ c t. k c
impl_tells true false f g p h k = λ c t. k c (t (h c))
impl_tells false true f g p h k = λ c t. absurd (h c t)
impl_tells false false f g p h k = λ c t. absurd (h c t)

pub repl_tells : (a b : Bool) (f g : Tree) (p : Point ℕ) → Tells a f p → Tells b g p → Tells (not b || a) (Repl f g) p
repl_tells true true f g p h k = λ c t. h c
repl_tells false true f g p h k = λ c t. h c (t (k c))
repl_tells true false f g p h k = λ c t. absurd (k c t)
repl_tells false false f g p h k = λ c t. absurd (k c t)

pub equiv_tells : (a b e : Bool) (f g : Tree) (p : Point ℕ) → (IsTrue e ↔ (a ≡ b)) → Tells a f p → Tells b g p → Tells e (Equiv f g) p
equiv_tells true true true f g p i h k = λ c. (λ t. k c, λ t. h c)
equiv_tells false false true f g p i h k = λ c. (λ t. absurd (h c t), λ t. absurd (k c t))
equiv_tells true false false f g p i h k = λ c t. k c (t.0 (h c))
equiv_tells false true false f g p i h k = λ c t. h c (t.1 (k c))
equiv_tells true true false f g p i h k = absurd (true≢false (sym (i.1 refl)))
equiv_tells false false false f g p i h k = absurd (true≢false (sym (i.1 refl)))
equiv_tells true false true f g p i h k = absurd (true≢false (i.0 refl))
equiv_tells false true true f g p i h k = absurd (true≢false (sym (i.0 refl)))

-- a place of a table within it is read alike whatever its default
pub read_default : (table : List Bool) (i : ℕ) (b : Bool) → i < length table → b ≡ get_or table i b → get_or table i false ≡ b
read_default [] i b h e = absurd (omega arith)
read_default (t ∷ table) zero b h e = sym e
read_default (t ∷ table) (suc i) b h e = read_default table i b (omega arith) e

module _ (P : FormulaId → Type 0) where
  -- the id at a place has it
  pub some_at : (ids : List FormulaId) (i : ℕ) (d : FormulaId) → i < length ids → P (get_or ids i d) → SomeOf P ids
  some_at [] i d h p = absurd (omega arith)
  some_at (x ∷ ids) zero d h p = inl p
  some_at (x ∷ ids) (suc i) d h p = inr (some_at ids i d (omega arith) p)

  some_joined : (xs ys : List FormulaId) → SomeOf P (xs ++ ys) → SomeOf P xs ⊎ SomeOf P ys
  some_joined [] ys s = inr s
  some_joined (x ∷ xs) ys (inl p) = inl (inl p)
  some_joined (x ∷ xs) ys (inr s) = ⊎_elim (λ p. inl (inr p)) (λ p. inr p) (some_joined xs ys s)

  -- none of the first ones has it, nor the next
  pub none_more : (ids : List FormulaId) (i : ℕ) (d : FormulaId) → i < length ids → ¬ (SomeOf P (take i ids)) → ¬ (P (get_or ids i d)) → ¬ (SomeOf P (take (i + 1) ids))
  none_more ids i d h n p = λ s.
      ⊎_elim (λ q. n q) (λ q. ⊎_elim (λ r. p r) (λ r. absurd r) q) (some_joined (take i ids) (get_or ids i d ∷ []) (subst (λ (l : List FormulaId). SomeOf P l) (take_more ids i d h) s))

-- the members of a list, all true or not all
pub all_tell : (b : Bool) (t : FormulaId → Tree) (marks : FormulaId → Bool) (p : Point ℕ) (ids : List FormulaId) → AllByRecursion (λ id. Tells (marks id) (t id) p) ids → (IsTrue b ↔ SomeOf (λ id. marks id ≡ false) ids)
    → Tells (not b) (And (members (map t ids))) p
all_tell true t marks p ids h i = none_true ids h (i.0 refl)
  where
    none_true : (ids : List FormulaId) → AllByRecursion (λ id. Tells (marks id) (t id) p) ids → SomeOf (λ id. marks id ≡ false) ids → (c : Context) → ¬ (TrueAt c (And (members (map t ids))) p)
    none_true [] h s c k = s
    none_true (x ∷ ids) h (inl e) c k = subst (λ b. Tells b (t x) p) e h.0 c k.0
    none_true (x ∷ ids) h (inr s) c k = none_true ids h.1 s c k.1
all_tell false t marks p ids h i = all_true ids h (λ s. true≢false (sym (i.1 s)))
  where
    is_true : (b : Bool) → ¬ (b ≡ false) → b ≡ true
    is_true true n = refl
    is_true false n = absurd (n refl)

    all_true : (ids : List FormulaId) → AllByRecursion (λ id. Tells (marks id) (t id) p) ids → ¬ (SomeOf (λ id. marks id ≡ false) ids) → (c : Context) → TrueAt c (And (members (map t ids))) p
    all_true [] h n c = tt
    all_true (x ∷ ids) h n c = (subst (λ b. Tells b (t x) p) (is_true (marks x) (λ e. n (inl e))) h.0 c, all_true ids h.1 (λ s. n (inr s)) c)

-- some true or none
pub some_tell : (b : Bool) (t : FormulaId → Tree) (marks : FormulaId → Bool) (p : Point ℕ) (ids : List FormulaId) → AllByRecursion (λ id. Tells (marks id) (t id) p) ids → (IsTrue b ↔ SomeOf (λ id. marks id ≡ true) ids)
    → Tells b (Or (members (map t ids))) p
some_tell true t marks p ids h i = some_true ids h (i.0 refl)
  where
    some_true : (ids : List FormulaId) → AllByRecursion (λ id. Tells (marks id) (t id) p) ids → SomeOf (λ id. marks id ≡ true) ids → (c : Context) → TrueAt c (Or (members (map t ids))) p
    some_true [] h s c = absurd s
    some_true (x ∷ ids) h (inl e) c = inl (subst (λ b. Tells b (t x) p) e h.0 c)
    some_true (x ∷ ids) h (inr s) c = inr (some_true ids h.1 s c)
some_tell false t marks p ids h i = none_true ids h (λ s. true≢false (sym (i.1 s)))
  where
    is_false : (b : Bool) → ¬ (b ≡ true) → b ≡ false
    is_false true n = absurd (n refl)
    is_false false n = refl

    none_true : (ids : List FormulaId) → AllByRecursion (λ id. Tells (marks id) (t id) p) ids → ¬ (SomeOf (λ id. marks id ≡ true) ids) → (c : Context) → ¬ (TrueAt c (Or (members (map t ids))) p)
    none_true [] h n c s = s
    none_true (x ∷ ids) h n c s = ⊎_elim (λ q. subst (λ b. Tells b (t x) p) (is_false (marks x) (λ e. n (inl e))) h.0 c q) (λ q. none_true ids h.1 (λ r. n (inr r)) c q) s
