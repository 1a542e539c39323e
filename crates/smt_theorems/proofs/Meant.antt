-- What the truth of the sentence of a state and its witnesses say of the state.
use Rattle.std.proofs.Common.{◌≡◌, ◌<◌, ℕ, List, [], ◌∷◌, length, ap, sym, ◌∙◌, subst, arith}
use Rattle.std.specs.List.{AllByRecursion}
use Rattle.exact_numbers.specs.Frac.{Frac}
use Rattle.exact_numbers.specs.Limit.{InLimit}
use Rattle.logic_meaning.specs.Context.{Context}
use Rattle.logic_meaning.specs.Every.{Every}
use Rattle.logic_meaning.specs.Point.{Point, Of, move}
use Rattle.logic_meaning.specs.Some.{EachOf}
use Rattle.logic_meaning.specs.Truth.{AllTrue}
use Rattle.logic_meaning.specs.Tree.{TrueAt, IsFree}
use Rattle.formula_laws.proofs.FreeNames.{tree_agrees}
use Rattle.logic_meaning.specs.NormalForm.{IsNormal}
use Rattle.language_meaning.specs.Trees.{FormulaTree, formulas_of}
use Rattle.language_meaning.specs.Value.{NamedPoint, same_name}
use Rattle.language_meaning.specs.Value as written
use Rattle.resolved_formulas.specs.Accepted.{IsAccepted}
use Rattle.language_meaning.specs.Causes.{IsTooDeep, height_in_place, most_height}
use Rattle.language_meaning.specs.Resolving.{formula_variables, resolve, at_names}
use Rattle.logic_meaning.specs.Names.{place}
use Rattle.logic_meaning.specs.Values.{with_values, IsValue, origin}
use Rattle.sample_reference.proofs.Chain.{origin_of}
use Rattle.sample_reference.proofs.SamePoints.{values_of_theory}
use Rattle.sample_reference.specs.Leading.{named_from, AreWitnesses}
use Rattle.smt_language.specs.Levels.{level, levels}
use Rattle.smt_meaning.specs.LevelsBelow.{AreLevelsBelow}
use Rattle.smt_meaning.proofs.Levels.{place_level}
use Rattle.program_meaning.specs.SmtState.{State}
use Rattle.program_meaning.specs.Sentence.{Says, all_of, sentence, resolved_sentence}
use Rattle.program_meaning.specs.Checks.{AreValues}
use Rattle.program_meaning.specs.Checks as checks
use Rattle.smt_theorems.specs.Resolvable.{IsResolvable}
use Rattle.smt_theorems.specs.Resolved.{sentence_levels, asserted_tree, AreResolvable, SentenceIsMeant}
use Rattle.smt_theorems.proofs.Accepted.{IsUncaused, joined_uncaused, closed_uncaused, accepted_uncaused, uncaused_accepted, height_inside}
use Rattle.smt_theorems.proofs.Names.{sentence_below, joined_below, each_below, declared_within, joined_declared, sentence_closed}
use Rattle.smt_theorems.proofs.Points.{named_point, have_values, values_there, numbers_agree, closed_truth}
use Rattle.smt_theorems.proofs.Trees.{joined_tree, same_truth, normal_tree, free_written}

-- ---- what is asserted, each and together

module _ (c : Context) (count limit : ℕ) where
  all_uncaused : (fs : List FormulaTree) → AllByRecursion (IsResolvable c count) fs → AllByRecursion (λ f. AreLevelsBelow limit (formula_variables f)) fs → AllByRecursion (IsUncaused c (place (levels limit))) fs
  all_uncaused [] h b = tt
  all_uncaused (f ∷ fs) h b = (accepted_uncaused c limit f b.0 (h.0.accepted limit b.0), all_uncaused fs h.1 b.1)

module _ (c : Context) (p : NamedPoint) where
  each_says : (fs : List FormulaTree) → AllTrue (written.Says (λ x q. ⊥)) (move same_name) c (formulas_of fs) p → AllByRecursion (λ f. Says c f p) fs
  each_says [] t = tt
  each_says (f ∷ fs) t = (t.0, each_says fs t.1)

  list_says : (fs : List FormulaTree) → Says c (all_of fs) p → AllByRecursion (λ f. Says c f p) fs
  list_says [] t = tt
  list_says (f ∷ []) t = (t, tt)
  list_says (f ∷ g ∷ fs) t = each_says (f ∷ g ∷ fs) t

-- ---- values

-- values of the theory within the limit are values
all_values : (c : Context) (n : ℕ) (vs : List Frac) → EachOf (IsValue c) (named_from n vs) → AllByRecursion (λ v. InLimit v.numerator × InLimit v.denominator) vs → AllByRecursion checks.IsValue vs
all_values c n [] h l = tt
all_values c n (v ∷ vs) h l = (record { lowest = h.0.lowest_terms; positive = h.0.proper; above = l.0.0; below = l.0.1 }, all_values c _ vs h.1 l.1)

-- ---- the sentence

module _ (c : Context) (s : State) (h : AreResolvable c s) (low : ¬ (IsTooDeep [] (sentence s))) where
  uncaused : IsUncaused c (place (levels (sentence_levels s))) (all_of s.asserted)
  uncaused = joined_uncaused c (place (levels (sentence_levels s))) s.asserted (all_uncaused c (length s.declared) (sentence_levels s) s.asserted h (each_below c s h))

  sentence_accepted : IsAccepted c [] (levels (sentence_levels s)) (sentence s)
  sentence_accepted =
      uncaused_accepted c (sentence_levels s) (sentence s) (sentence_below c s h)
      (closed_uncaused c (place (levels (sentence_levels s))) 0 s.declared (all_of s.asserted) uncaused) low

  joined_accepted : IsAccepted c [] (levels (sentence_levels s)) (all_of s.asserted)
  joined_accepted =
      uncaused_accepted c (sentence_levels s) (all_of s.asserted) (joined_below c s h) uncaused
      (λ d. let l = height_inside 0 s.declared (all_of s.asserted) in let b : most_height < height_in_place [] (all_of s.asserted) = d in low (omega arith))

  tree : resolve c [] (levels (sentence_levels s)) (all_of s.asserted) ≡ asserted_tree c s
  tree = joined_tree c (sentence_levels s) s.asserted

  resolved_closed : (y : ℕ) → ¬ (IsFree (resolved_sentence c s) y)
  resolved_closed y i = let r = free_written c (sentence_levels s) (sentence s) (sentence_below c s h) sentence_accepted y i in sentence_closed c s h r.0 r.1

  -- a number that is free in what is asserted is that of a level
  free_within : (y : ℕ) → IsFree (resolve c [] (levels (sentence_levels s)) (all_of s.asserted)) y → y < sentence_levels s
  free_within y i =
      let r = free_written c (sentence_levels s) (all_of s.asserted) (joined_below c s h) joined_accepted y i in
      let b = joined_declared c s h r.0 r.1 in
      let k : ℕ = b.0 in let l : k < length s.declared = b.1 in let d = declared_within c s h in
      let e : place (levels (sentence_levels s)) (level k) ≡ k = place_level (sentence_levels s) k (omega arith) in
      let same : place (levels (sentence_levels s)) (level k) ≡ y = ap (place (levels (sentence_levels s))) (sym b.2) ∙ r.2 in
      let n : k ≡ y = sym e ∙ same in
      omega arith

  module _ (vs : List Frac) (w : AreWitnesses c (length s.declared) (asserted_tree c s) vs) where
    abbrev point : Point ℕ
    point = with_values origin (named_from 0 vs)

    of_point : Of c (named_point point)
    of_point = values_of_theory c (named_from 0 vs) origin w.each (origin_of c)

    says : Says c (all_of s.asserted) (named_point point)
    says =
        let t : TrueAt c (resolve c [] (levels (sentence_levels s)) (all_of s.asserted)) point = subst (λ t. TrueAt c t point) (sym tree) w.true_with in
        (same_truth c (sentence_levels s) (all_of s.asserted) (joined_below c s h) joined_accepted (named_point point) of_point).1
        ((tree_agrees c (resolve c [] (levels (sentence_levels s)) (all_of s.asserted)) point (at_names (levels (sentence_levels s)) (named_point point))
        (numbers_agree (sentence_levels s) (IsFree (resolve c [] (levels (sentence_levels s)) (all_of s.asserted))) point free_within)).0 t)

    are_values : AllByRecursion (λ v. InLimit v.numerator × InLimit v.denominator) vs → AreValues c s vs
    are_values l = record {
      point = named_point point;
      of = of_point;
      values = have_values 0 s.declared vs point w.one_each (values_there c 0 vs origin w.each);
      each = all_values c 0 vs w.each l;
      true = list_says c (named_point point) s.asserted says;
    }

  -- the truth of the sentence as it is written
  same : (p : NamedPoint) (o : Of c p) → (TrueAt c (resolved_sentence c s) origin → Says c (sentence s) p) × (Says c (sentence s) p → TrueAt c (resolved_sentence c s) origin)
  same p o =
      let a = closed_truth c (resolved_sentence c s) resolved_closed (at_names (levels (sentence_levels s)) p) o in
      let b = same_truth c (sentence_levels s) (sentence s) (sentence_below c s h) sentence_accepted p o in
      (λ t. b.1 (a.0 t), λ t. a.1 (b.0 t))

-- the resolved sentence has the truth of the written one, and witnesses are values
pub sentence_is_meant : SentenceIsMeant
sentence_is_meant c s h low = record {
  normal = subst (Every (IsNormal c)) (tree c s h low) (normal_tree c (sentence_levels s) (all_of s.asserted) (joined_below c s h) (joined_accepted c s h low));
  closed = resolved_closed c s h low;
  holds = λ t p o. (same c s h low p o).0 t;
  fails = λ f p o t. f ((same c s h low p o).1 t);
  valued = λ vs w l. are_values c s h low vs w l;
}
