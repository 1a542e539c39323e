-- Formulas over the names of levels, resolved: their trees, their truth and their free names.
use Rattle.std.proofs.Common.{◌≡◌, ◌≤◌, ◌<◌, ◌+◌, ◌↔◌, inl, inr, ℕ, zero, suc, Bool, true, false, ◌&&◌, List, [], ◌∷◌, length, map, refl, ap, ap₂, ◌∙◌, subst, arith, nat_eq, eqb-true}
use Rattle.std.specs.List.{AllByRecursion, IsDistinct}
use Rattle.logic_meaning.specs.Context.{Context}
use Rattle.logic_meaning.specs.Every.{Every, FreeInSome}
use Rattle.logic_meaning.specs.Formula.{Yes, No, One, Not, And, Or, Impl, Repl, Equiv, Ex, All, none, also}
use Rattle.logic_meaning.specs.Point.{Of}
use Rattle.logic_meaning.specs.Replaced.{all_replaced}
use Rattle.logic_meaning.specs.Tree.{Tree, TrueAt}
use Rattle.logic_meaning.specs.Tree as meaning
use Rattle.logic_meaning.specs.declared.quantifier.Quantifier.TheVariants.{Exists}
use Rattle.logic_meaning.specs.NormalForm.{IsNormal}
use Rattle.written_syntax.specs.FreeNames.{IsFree}
use Rattle.language_meaning.specs.Trees.{FormulaTree, FormulaTrees, WrittenAtom, Compare, Cong, Ncong, Bound, formulas_of}
use Rattle.language_meaning.specs.Value.{NamedPoint, Mentions, same_name}
use Rattle.language_meaning.specs.Value as written
use Rattle.resolved_formulas.specs.Accepted.{IsAccepted}
use Rattle.language_meaning.specs.NamesAfter.{names_after}
use Rattle.language_meaning.specs.Resolving.{formula_variables, resolve, resolved_atom, at_names, bound_truth, IsFreeInPlace, MentionsNumber}
use Rattle.logic_meaning.specs.Names.{place}
use Rattle.formula_tree.specs.Trees.{members}
use Rattle.resolved_formulas.proofs.ResolvedNames.{resolving_brings_no_name}
use Rattle.resolved_formulas.proofs.ResolvedTruth.{resolving_keeps_truth, resolving_is_normal}
use Rattle.sample_reference.specs.Leading.{under_names}
use Rattle.smt_language.specs.Levels.{level, levels, levels_from, closed}
use Rattle.smt_meaning.specs.LevelsBelow.{AreLevelsBelow}
use Rattle.smt_meaning.proofs.Levels.{place_level, same_names_after}
use Rattle.program_meaning.specs.Sentence.{Says, all_of}
use Rattle.smt_theorems.specs.Resolved.{conjunction}

-- ---- trees

module _ (c : Context) (count : ℕ) where
  abbrev by_levels : FormulaTree → Tree
  by_levels f = resolve c [] (levels count) f

  -- quantified levels are their numbers
  pub closed_tree : (n : ℕ) (xs : List (List ℕ)) (f : FormulaTree) → n + length xs ≤ count → by_levels (closed Exists n xs f) ≡ under_names n (length xs) (by_levels f)
  closed_tree n [] f l = refl
  closed_tree n (x ∷ xs) f l = ap₂ (λ (y : ℕ) (t : Tree). Ex y t) (place_level count n (omega arith)) (closed_tree (suc n) xs f (omega arith))

  list_trees : (fs : List FormulaTree) → all_replaced (resolved_atom c [] (place (levels count))) (place (levels count)) (formulas_of fs) ≡ members (map by_levels fs)
  list_trees [] = refl
  list_trees (f ∷ fs) = ap (also (by_levels f)) (list_trees fs)

  -- the formulas are joined in the same way
  pub joined_tree : (fs : List FormulaTree) → by_levels (all_of fs) ≡ conjunction (map by_levels fs)
  joined_tree [] = refl
  joined_tree (f ∷ []) = refl
  joined_tree (f ∷ g ∷ fs) = ap And (list_trees (f ∷ g ∷ fs))

-- ---- levels are different names

nat_other : (m n : ℕ) → m < n → nat_eq m n ≡ false
nat_other m n l = go (nat_eq m n) refl
  where
    go : (b : Bool) → nat_eq m n ≡ b → b ≡ false
    go true e = let i = eqb-true m n e in absurd (omega arith)
    go false e = refl

later_differ : (m n count : ℕ) → m < n → AllByRecursion (λ y. same_name (level m) y ≡ false) (levels_from n count)
later_differ m n zero l = tt
later_differ m n (suc count) l = ((λ i. (nat_other m n l i) && true), later_differ m (suc n) count (omega arith))

levels_differ : (n count : ℕ) → IsDistinct same_name (levels_from n count)
unfolding IsDistinct
levels_differ n zero = tt
levels_differ n (suc count) = (later_differ n (suc n) count (omega arith), levels_differ (suc n) count)

-- ---- free names

mention_written : (number : List ℕ → ℕ) (a : WrittenAtom) (n : ℕ) → MentionsNumber [] number a n → (x : List ℕ) × Mentions a x × (number x ≡ n)
mention_written number (Compare rel s t) n h = h
mention_written number (Cong s t m) n h = h
mention_written number (Ncong s t m) n h = h
mention_written number (Bound x) n h = absurd h

module _ (number : List ℕ → ℕ) where
  mutual
    -- a number that is free in the formula is that of a free name
    written_free : (f : FormulaTree) (n : ℕ) → IsFreeInPlace [] number f n → (x : List ℕ) × IsFree f x × (number x ≡ n)
    written_free Yes n h = absurd h
    written_free No n h = absurd h
    written_free (One a) n h = mention_written number a n h
    written_free (Not f) n h = written_free f n h
    written_free (And fs) n h = written_free_in fs n h
    written_free (Or fs) n h = written_free_in fs n h
    written_free (Impl f g) n (inl h) = let r = written_free f n h in (r.0, inl r.1, r.2)
    written_free (Impl f g) n (inr h) = let r = written_free g n h in (r.0, inr r.1, r.2)
    written_free (Repl f g) n (inl h) = let r = written_free f n h in (r.0, inl r.1, r.2)
    written_free (Repl f g) n (inr h) = let r = written_free g n h in (r.0, inr r.1, r.2)
    written_free (Equiv f g) n (inl h) = let r = written_free f n h in (r.0, inl r.1, r.2)
    written_free (Equiv f g) n (inr h) = let r = written_free g n h in (r.0, inr r.1, r.2)
    written_free (Ex y f) n h = let r = written_free f n h.1 in (r.0, (λ e. h.0 (ap number e ∙ r.2), r.1), r.2)
    written_free (All y f) n h = let r = written_free f n h.1 in (r.0, (λ e. h.0 (ap number e ∙ r.2), r.1), r.2)

    written_free_in : (fs : FormulaTrees) (n : ℕ) → FreeInSome (MentionsNumber [] number) (all_replaced One number fs) n → (x : List ℕ) × FreeInSome Mentions fs x × (number x ≡ n)
    written_free_in none n h = absurd h
    written_free_in (also f fs) n (inl h) = let r = written_free f n h in (r.0, inl r.1, r.2)
    written_free_in (also f fs) n (inr h) = let r = written_free_in fs n h in (r.0, inr r.1, r.2)

-- ---- what resolving keeps

module _ (c : Context) (count : ℕ) (f : FormulaTree) (below : AreLevelsBelow count (formula_variables f)) (accepted : IsAccepted c [] (levels count) f) where
  after : names_after (levels count) f ≡ levels count
  after = same_names_after count f below

  -- the resolved formula has the truth of the written one
  pub same_truth : (p : NamedPoint) → Of c p → Says c f p ↔ TrueAt c (resolve c [] (levels count) f) (at_names (levels count) p)
  same_truth p o =
      subst (λ names. written.TrueAt (bound_truth c [] names) c f p ↔ TrueAt c (resolve c [] names f) (at_names names p)) after
      (resolving_keeps_truth c [] (levels count) f (levels_differ 0 count) accepted p o)

  -- its atoms are normal
  pub normal_tree : Every (IsNormal c) (resolve c [] (levels count) f)
  normal_tree = subst (λ names. Every (IsNormal c) (resolve c [] names f)) after (resolving_is_normal c [] (levels count) f (λ x t e. absurd (cc e)) accepted)

  -- a number that is free in it is the place of a free name
  pub free_written : (y : ℕ) → meaning.IsFree (resolve c [] (levels count) f) y → (x : List ℕ) × IsFree f x × (place (levels count) x ≡ y)
  free_written y h =
      written_free (place (levels count)) f y
      (subst (λ names. meaning.IsFree (resolve c [] names f) y → IsFreeInPlace [] (place names) f y) after (resolving_brings_no_name c [] (levels count) f accepted y) h)
