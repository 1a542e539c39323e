-- What absorption leaves, and the lists in which no earlier one is within.
use Rattle.std.proofs.Common.{◌≡◌, ℕ, zero, suc, ◌≤◌, ◌-◌, length, take, drop, arith, ◌⊎◌, inl, inr, Bool, true, false, List, [], ◌∷◌, ◌++◌, refl, sym, ap, ◌∙◌, true≢false}
use Rattle.std.specs.Prelude.{◌||◌, if◌then◌else◌}
use Rattle.std.specs.Prelude.{reverse}
use Rattle.std.proofs.lemmas.List.{reverse-append, take_all}
use Rattle.formula_store.specs.declared.id.FormulaId.{FormulaId}
use Rattle.normal_forms.specs.Atoms.{is_within, some_within, not_above, add}
use Rattle.normal_forms.specs.Sieves.{first_only, swept}
use Rattle.normal_forms.proofs.Members.{within_then}

or_comes : (a b : Bool) → (a || b) ≡ true → (a ≡ true) ⊎ (b ≡ true)
or_comes true b e = inl refl
or_comes false b e = inr e

or_true : (a b : Bool) → b ≡ true → (a || b) ≡ true
or_true true b e = refl
or_true false b e = e

or_first : (a b : Bool) → a ≡ true → (a || b) ≡ true
or_first a b e = ap (λ c. c || b) e

-- a list within which another one is that some list is within
pub some_within_then : (ls : List (List FormulaId)) (us vs : List FormulaId) → some_within ls us ≡ true → is_within us vs ≡ true → some_within ls vs ≡ true
some_within_then [] us vs e f = e
some_within_then (ws ∷ ls) us vs e f = split (or_comes (is_within ws us) (some_within ls us) e) (λ g. some_within_then ls us vs g f)
  where
    split : (is_within ws us ≡ true) ⊎ (some_within ls us ≡ true) → (some_within ls us ≡ true → some_within ls vs ≡ true) → some_within (ws ∷ ls) vs ≡ true
    split (inl g) k = or_first (is_within ws vs) (some_within ls vs) (within_then ws us vs g f)
    split (inr g) k = or_true (is_within ws vs) (some_within ls vs) (k g)

-- what is swept away changes nothing of which lists have one within
module _ (vs : List FormulaId) where
  pub swept_within : (ls : List (List FormulaId)) → some_within (swept ls) vs ≡ some_within ls vs
  swept_within [] = refl
  swept_within (us ∷ ls) = at (swept_within ls) (some_within ls us) refl
    where
      absorbed : some_within ls us ≡ true → (b : Bool) → is_within us vs ≡ b → some_within ls vs ≡ (b || some_within ls vs)
      absorbed e true f = some_within_then ls us vs e f
      absorbed e false f = refl

      at : some_within (swept ls) vs ≡ some_within ls vs → (b : Bool) → some_within ls us ≡ b → some_within (if b then swept ls else us ∷ swept ls) vs ≡ (is_within us vs || some_within ls vs)
      at k true e = k ∙ absorbed e (is_within us vs) refl
      at k false e = ap (λ c. is_within us vs || c) k

  within_more : (ls ks : List (List FormulaId)) → some_within (ls ++ ks) vs ≡ (some_within ls vs || some_within ks vs)
  within_more [] ks = refl
  within_more (us ∷ ls) ks = ap (λ c. is_within us vs || c) (within_more ls ks) ∙ assoc (is_within us vs) (some_within ls vs) (some_within ks vs)
    where
      assoc : (a b c : Bool) → (a || (b || c)) ≡ ((a || b) || c)
      assoc true b c = refl
      assoc false b c = refl

or_false : (a : Bool) → (a || false) ≡ a
or_false true = refl
or_false false = refl

-- one list more at the end
sweeps : (ls : List (List FormulaId)) (vs : List FormulaId) → swept (ls ++ vs ∷ []) ≡ not_above (swept ls) vs ++ vs ∷ []
sweeps [] vs = refl
sweeps (us ∷ ls) vs =
    ap (λ c. if c then swept (ls ++ vs ∷ []) else us ∷ swept (ls ++ vs ∷ [])) (within_more us ls (vs ∷ []) ∙ ap (λ c. some_within ls us || c) (or_false (is_within vs us)))
    ∙ ap (λ t. if some_within ls us || is_within vs us then t else us ∷ t) (sweeps ls vs)
    ∙ split (some_within ls us) (is_within vs us) refl
  where
    split : (a b : Bool) → is_within vs us ≡ b → (if a || b then not_above (swept ls) vs ++ vs ∷ [] else us ∷ (not_above (swept ls) vs ++ vs ∷ [])) ≡ not_above (if a then swept ls else us ∷ swept ls) vs ++ vs ∷ []
    split true b e = refl
    split false true e = sym (ap (λ c. (if c then not_above (swept ls) vs else us ∷ not_above (swept ls) vs) ++ vs ∷ []) e)
    split false false e = sym (ap (λ c. (if c then not_above (swept ls) vs else us ∷ not_above (swept ls) vs) ++ vs ∷ []) e)

-- what absorption leaves with one list more
pub sweep_adds : (ls : List (List FormulaId)) (vs : List FormulaId) → swept (first_only ls vs) ≡ add (swept ls) vs
sweep_adds ls vs =
    at (some_within ls vs)
    ∙ ap (λ c. if c then swept ls else not_above (swept ls) vs ++ vs ∷ []) (sym (swept_within vs ls))
  where
    at : (b : Bool) → swept (if b then ls else ls ++ vs ∷ []) ≡ (if b then swept ls else not_above (swept ls) vs ++ vs ∷ [])
    at true = refl
    at false = sweeps ls vs

-- ---- from the last to the first

within_turned : (ls : List (List FormulaId)) (vs : List FormulaId) → some_within (reverse ls) vs ≡ some_within ls vs
within_turned [] vs = refl
within_turned (us ∷ ls) vs =
    ap (λ ks. some_within ks vs) (reverse-append (us ∷ []) ls)
    ∙ within_more vs (reverse ls) (us ∷ [])
    ∙ ap (λ c. c || (is_within us vs || false)) (within_turned ls vs)
    ∙ turned (some_within ls vs) (is_within us vs)
  where
    turned : (a b : Bool) → (a || (b || false)) ≡ (b || a)
    turned true true = refl
    turned true false = refl
    turned false true = refl
    turned false false = refl

-- one more before those that have come from the last one on
pub turned_adds : (us : List FormulaId) (ls : List (List FormulaId)) → first_only (reverse (swept ls)) us ≡ reverse (swept (us ∷ ls))
turned_adds us ls =
    ap (λ c. if c then reverse (swept ls) else reverse (swept ls) ++ us ∷ []) (within_turned (swept ls) us ∙ swept_within us ls)
    ∙ at (some_within ls us)
  where
    at : (b : Bool) → (if b then reverse (swept ls) else reverse (swept ls) ++ us ∷ []) ≡ reverse (if b then swept ls else us ∷ swept ls)
    at true = refl
    at false = sym (reverse-append (us ∷ []) (swept ls))

-- the first lists are passed over
pub passed_over : (n : ℕ) (ls : List (List FormulaId)) (vs : List FormulaId) → some_within (take n ls) vs ≡ false → some_within (drop n ls) vs ≡ some_within ls vs
passed_over zero ls vs e = refl
passed_over (suc n) [] vs e = refl
passed_over (suc n) (us ∷ ls) vs e =
    passed_over n ls vs (second (is_within us vs) (some_within (take n ls) vs) e)
    ∙ sym (ap (λ c. c || some_within ls vs) (first (is_within us vs) (some_within (take n ls) vs) e))
  where
    first : (a b : Bool) → (a || b) ≡ false → a ≡ false
    first true b e = e
    first false b e = refl

    second : (a b : Bool) → (a || b) ≡ false → b ≡ false
    second true b e = absurd (true≢false e)
    second false b e = e

left_over : (n : ℕ) (ls : List (List FormulaId)) → length (drop n ls) ≤ length ls - n
left_over zero ls = omega arith
left_over (suc n) [] = omega arith
left_over (suc n) (us ∷ ls) = let k = left_over n ls in omega arith

-- the other lists, from one on up to the last
pub others_are : (n : ℕ) (ls : List (List FormulaId)) → take (length ls - n) (drop n ls) ≡ drop n ls
others_are n ls = take_all (length ls - n) (drop n ls) (left_over n ls)
