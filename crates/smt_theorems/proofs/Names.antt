-- The names of a sentence are those of levels below the count of its levels, and none is free in it.
use Rattle.std.proofs.Common.{◌≡◌, ◌≤◌, ◌<◌, ◌+◌, inl, inr, ℕ, suc, max, List, [], ◌∷◌, length, refl, ap, sym, ◌∙◌, subst, arith}
use Rattle.std.specs.List.{AllByRecursion}
use Rattle.std.proofs.lemmas.Bool.{cases_lt}
use Rattle.logic_meaning.specs.Context.{Context}
use Rattle.logic_meaning.specs.Every.{FreeInSome}
use Rattle.logic_meaning.specs.declared.quantifier.Quantifier.TheVariants.{Exists}
use Rattle.written_syntax.specs.FreeNames.{IsFree}
use Rattle.language_meaning.specs.Trees.{FormulaTree, formulas_of}
use Rattle.language_meaning.specs.Value.{Mentions}
use Rattle.language_meaning.specs.Resolving.{formula_variables, all_variables}
use Rattle.smt_language.specs.Levels.{level, closed}
use Rattle.smt_meaning.specs.LevelsBelow.{IsLevelBelow, AreLevelsBelow}
use Rattle.smt_meaning.proofs.Levels.{all_append, all_first, all_second, all_weaker, more_levels}
use Rattle.program_meaning.specs.SmtState.{State}
use Rattle.program_meaning.specs.Sentence.{all_of, sentence, level_count}
use Rattle.smt_theorems.specs.Resolvable.{IsResolvable}
use Rattle.smt_theorems.specs.Resolved.{sentence_levels, AreResolvable}

-- ---- formulas joined, and under quantifiers

module _ (P : List ℕ → Type 0) where
  -- each name of the formula has P
  abbrev HaveNames : FormulaTree → Type 0
  HaveNames f = AllByRecursion P (formula_variables f)

  list_has : (fs : List FormulaTree) → AllByRecursion HaveNames fs → AllByRecursion P (all_variables (formulas_of fs))
  list_has [] h = tt
  list_has (f ∷ fs) h = all_append P (formula_variables f) (all_variables (formulas_of fs)) h.0 (list_has fs h.1)

  joined_has : (fs : List FormulaTree) → AllByRecursion HaveNames fs → HaveNames (all_of fs)
  joined_has [] h = tt
  joined_has (f ∷ []) h = h.0
  joined_has (f ∷ g ∷ fs) h = list_has (f ∷ g ∷ fs) h

  members_have : (fs : List FormulaTree) → AllByRecursion P (all_variables (formulas_of fs)) → AllByRecursion HaveNames fs
  members_have [] h = tt
  members_have (f ∷ fs) h = (all_first P (formula_variables f) (all_variables (formulas_of fs)) h, members_have fs (all_second P (formula_variables f) (all_variables (formulas_of fs)) h))

  each_has : (fs : List FormulaTree) → HaveNames (all_of fs) → AllByRecursion HaveNames fs
  each_has [] h = tt
  each_has (f ∷ []) h = (h, tt)
  each_has (f ∷ g ∷ fs) h = members_have (f ∷ g ∷ fs) h

  inside_has : (n : ℕ) (xs : List (List ℕ)) (f : FormulaTree) → HaveNames (closed Exists n xs f) → HaveNames f
  inside_has n [] f h = h
  inside_has n (x ∷ xs) f h = inside_has (suc n) xs f h.1

-- ---- levels

-- the name is that of a level
abbrev IsLevel : List ℕ → Type 0
IsLevel x = (n : ℕ) × (x ≡ level n)

levels_counted : (xs : List (List ℕ)) → AllByRecursion IsLevel xs → AreLevelsBelow (level_count xs) xs
levels_counted [] h = tt
levels_counted (x ∷ xs) h = subst (λ y. AreLevelsBelow (level_count (y ∷ xs)) (y ∷ xs)) (sym h.0.1) (counted h.0.0 (levels_counted xs h.1))
  where
    counted : (n : ℕ) → AreLevelsBelow (level_count xs) xs → AreLevelsBelow (max (suc n) (level_count xs)) (level n ∷ xs)
    counted n r = ((n, omega arith, refl), more_levels (level_count xs) (max (suc n) (level_count xs)) (omega arith) xs r)

closed_levels : (n : ℕ) (xs : List (List ℕ)) (f : FormulaTree) → HaveNames IsLevel f → HaveNames IsLevel (closed Exists n xs f)
closed_levels n [] f h = h
closed_levels n (x ∷ xs) f h = ((n, refl), closed_levels (suc n) xs f h)

level_same : {m n : ℕ} → level m ≡ level n → m ≡ n
level_same e = cc

-- the levels of the quantified names are counted
closed_within : (count n : ℕ) (xs : List (List ℕ)) (f : FormulaTree) → n ≤ count → AreLevelsBelow count (formula_variables (closed Exists n xs f)) → n + length xs ≤ count
closed_within count n [] f l h = omega arith
closed_within count n (x ∷ xs) f l h =
    let k : ℕ = h.0.0 in let b : k < count = h.0.1 in let e : n ≡ k = level_same h.0.2 in
    let r = closed_within count (suc n) xs f (omega arith) h.1 in
    omega arith

-- ---- free names

list_free : (K : List ℕ → Type 0) (fs : List FormulaTree) → AllByRecursion (λ f. (x : List ℕ) → IsFree f x → K x) fs → (x : List ℕ) → FreeInSome Mentions (formulas_of fs) x → K x
list_free K [] h x i = absurd i
list_free K (f ∷ fs) h x (inl i) = h.0 x i
list_free K (f ∷ fs) h x (inr i) = list_free K fs h.1 x i

joined_free : (K : List ℕ → Type 0) (fs : List FormulaTree) → AllByRecursion (λ f. (x : List ℕ) → IsFree f x → K x) fs → (x : List ℕ) → IsFree (all_of fs) x → K x
joined_free K [] h x i = absurd i
joined_free K (f ∷ []) h x i = h.0 x i
joined_free K (f ∷ g ∷ fs) h x i = list_free K (f ∷ g ∷ fs) h x i

-- what is free under the quantifiers is free inside, and is none of their levels
closed_free : (n : ℕ) (xs : List (List ℕ)) (f : FormulaTree) (x : List ℕ) → IsFree (closed Exists n xs f) x → IsFree f x × ((k : ℕ) → n ≤ k → k < n + length xs → ¬ (x ≡ level k))
closed_free n [] f x h = (h, λ k l b e. absurd (omega arith))
closed_free n (y ∷ ys) f x h =
    let r = closed_free (suc n) ys f x h.1 in
    (r.0, λ k l b e. elim (cases_lt n k) [ inl m ↦ r.1 k (omega arith) (omega arith) e | inr m ↦ let i : n ≡ k = omega arith in h.0 (ap level i ∙ sym e) ])

-- ---- the sentence

module _ (c : Context) (s : State) (h : AreResolvable c s) where
  are_levels : HaveNames IsLevel (sentence s)
  are_levels =
      closed_levels 0 s.declared (all_of s.asserted) (joined_has IsLevel s.asserted
      (all_weaker (IsResolvable c (length s.declared)) (HaveNames IsLevel) (λ f r. all_weaker (IsLevelBelow r.most) IsLevel (λ x b. (b.0, b.2)) (formula_variables f) r.below) s.asserted h))

  -- each name of the sentence is that of a level below their count
  pub sentence_below : AreLevelsBelow (sentence_levels s) (formula_variables (sentence s))
  sentence_below = levels_counted (formula_variables (sentence s)) are_levels

  -- so is each name of what is asserted
  pub joined_below : AreLevelsBelow (sentence_levels s) (formula_variables (all_of s.asserted))
  joined_below = inside_has (IsLevelBelow (sentence_levels s)) 0 s.declared (all_of s.asserted) sentence_below

  -- and of each formula of it
  pub each_below : AllByRecursion (λ f. AreLevelsBelow (sentence_levels s) (formula_variables f)) s.asserted
  each_below = each_has (IsLevelBelow (sentence_levels s)) s.asserted joined_below

  -- the levels of the declared names are among them
  pub declared_within : length s.declared ≤ sentence_levels s
  declared_within = let l = closed_within (sentence_levels s) 0 s.declared (all_of s.asserted) (omega arith) sentence_below in omega arith

  -- a name that is free in what is asserted is that of a declared name
  pub joined_declared : (x : List ℕ) → IsFree (all_of s.asserted) x → IsLevelBelow (length s.declared) x
  joined_declared =
      joined_free (IsLevelBelow (length s.declared)) s.asserted
      (all_weaker (IsResolvable c (length s.declared)) (λ f. (x : List ℕ) → IsFree f x → IsLevelBelow (length s.declared) x) (λ f r. r.closed) s.asserted h)

  -- the sentence has no free name
  pub sentence_closed : (x : List ℕ) → ¬ (IsFree (sentence s) x)
  sentence_closed x i =
      let r = closed_free 0 s.declared (all_of s.asserted) x i in
      let b = joined_declared x r.0 in
      let k : ℕ = b.0 in let l : k < length s.declared = b.1 in
      r.1 k (omega arith) (omega arith) b.2
