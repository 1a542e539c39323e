-- No cause of a refusal applies to formulas joined, or under quantifiers of levels, where none applies to each.
use Rattle.std.proofs.Common.{◌⊎◌, ◌≤◌, inl, inr, ℕ, suc, List, [], ◌∷◌, sym, subst, arith}
use Rattle.std.specs.List.{AllByRecursion}
use Rattle.logic_meaning.specs.Context.{Context, Fields, Integers}
use Rattle.logic_meaning.specs.declared.quantifier.Quantifier.TheVariants.{Exists}
use Rattle.language_meaning.specs.Trees.{WrittenAtom, FormulaTree, formulas_of}
use Rattle.resolved_formulas.specs.Accepted.{IsAccepted}
use Rattle.language_meaning.specs.Causes.{HasNoTree, IsBound, MentionsBound, IsUnbound, NamesFormulaAsTerm, SomeTerm, HasNonlinear, HasForbidden, HasPast, IsCongruence, HasBadModulus, PassesInReading, IsNonlinear, Divides, CongruenceInFields, IsBadModulus, IsTooDeep, height_in_place}
use Rattle.language_meaning.specs.NamesAfter.{names_after}
use Rattle.language_meaning.specs.Resolving.{formula_variables}
use Rattle.logic_meaning.specs.Names.{place}
use Rattle.language_meaning.specs.Somewhere.{Somewhere, SomewhereIn}
use Rattle.smt_language.specs.Levels.{level, levels, closed}
use Rattle.smt_meaning.specs.LevelsBelow.{AreLevelsBelow}
use Rattle.smt_meaning.proofs.Levels.{all_weaker, same_names_after}
use Rattle.program_meaning.specs.Sentence.{all_of}

module _ (P : WrittenAtom → Type 0) (K : List ℕ → Type 0) where
  abbrev IsNowhere : FormulaTree → Type 0
  IsNowhere f = ¬ (Somewhere P K f)

  list_nowhere : (fs : List FormulaTree) → AllByRecursion IsNowhere fs → ¬ (SomewhereIn P K (formulas_of fs))
  list_nowhere [] h s = s
  list_nowhere (f ∷ fs) h (inl s) = h.0 s
  list_nowhere (f ∷ fs) h (inr s) = list_nowhere fs h.1 s

  joined_nowhere : (fs : List FormulaTree) → AllByRecursion IsNowhere fs → IsNowhere (all_of fs)
  joined_nowhere [] h s = s
  joined_nowhere (f ∷ []) h s = h.0 s
  joined_nowhere (f ∷ g ∷ fs) h s = list_nowhere (f ∷ g ∷ fs) h s

  closed_nowhere : ((n : ℕ) → ¬ (K (level n))) → (n : ℕ) (xs : List (List ℕ)) (f : FormulaTree) → IsNowhere f → IsNowhere (closed Exists n xs f)
  closed_nowhere k n [] f h s = h s
  closed_nowhere k n (x ∷ xs) f h (inl b) = k n b
  closed_nowhere k n (x ∷ xs) f h (inr s) = closed_nowhere k (suc n) xs f h s

-- no cause applies, beside the height
pub record IsUncaused (c : Context) (number : List ℕ → ℕ) (f : FormulaTree) : Type 0 where
  pub bound_names : ¬ (IsUnbound [] f)
  pub variables : ¬ (NamesFormulaAsTerm [] f)
  pub linear : ¬ (IsNonlinear c number f)
  pub undivided : ¬ (Divides c number f)
  pub congruences : ¬ (CongruenceInFields c f)
  pub moduli : ¬ (IsBadModulus c number f)
  pub past : ¬ (Somewhere (SomeTerm HasPast) (λ x. ⊥) f)
  pub passes : ¬ (Somewhere (PassesInReading c [] number) (λ x. ⊥) f)

joined_congruences : (c : Context) (fs : List FormulaTree) → AllByRecursion (λ f. ¬ (CongruenceInFields c f)) fs → ¬ (CongruenceInFields c (all_of fs))
joined_congruences Fields fs h = joined_nowhere IsCongruence (λ x. ⊥) fs h
joined_congruences Integers fs h = λ s. s

closed_congruences : (c : Context) (n : ℕ) (xs : List (List ℕ)) (f : FormulaTree) → ¬ (CongruenceInFields c f) → ¬ (CongruenceInFields c (closed Exists n xs f))
closed_congruences Fields n xs f h = closed_nowhere IsCongruence (λ x. ⊥) (λ k s. s) n xs f h
closed_congruences Integers n xs f h = λ s. s

nothing_bound : (n : ℕ) → ¬ (IsBound [] (level n))
nothing_bound n b = absurd (cc (b.1))

module _ (c : Context) (number : List ℕ → ℕ) where
  -- none applies to formulas joined
  pub joined_uncaused : (fs : List FormulaTree) → AllByRecursion (IsUncaused c number) fs → IsUncaused c number (all_of fs)
  joined_uncaused fs h = record {
    bound_names = joined_nowhere (HasNoTree []) (λ x. ⊥) fs (all_weaker _ (λ f. ¬ (IsUnbound [] f)) (λ f u. u.bound_names) fs h);
    variables = joined_nowhere (MentionsBound []) (IsBound []) fs (all_weaker _ (λ f. ¬ (NamesFormulaAsTerm [] f)) (λ f u. u.variables) fs h);
    linear = joined_nowhere (SomeTerm (HasNonlinear c number)) (λ x. ⊥) fs (all_weaker _ (λ f. ¬ (IsNonlinear c number f)) (λ f u. u.linear) fs h);
    undivided = joined_nowhere (SomeTerm (HasForbidden c number)) (λ x. ⊥) fs (all_weaker _ (λ f. ¬ (Divides c number f)) (λ f u. u.undivided) fs h);
    congruences = joined_congruences c fs (all_weaker _ (λ f. ¬ (CongruenceInFields c f)) (λ f u. u.congruences) fs h);
    moduli = joined_nowhere (HasBadModulus c number) (λ x. ⊥) fs (all_weaker _ (λ f. ¬ (IsBadModulus c number f)) (λ f u. u.moduli) fs h);
    past = joined_nowhere (SomeTerm HasPast) (λ x. ⊥) fs (all_weaker _ (λ f. ¬ (Somewhere (SomeTerm HasPast) (λ x. ⊥) f)) (λ f u. u.past) fs h);
    passes = joined_nowhere (PassesInReading c [] number) (λ x. ⊥) fs (all_weaker _ (λ f. ¬ (Somewhere (PassesInReading c [] number) (λ x. ⊥) f)) (λ f u. u.passes) fs h);
  }

  -- none applies to a formula under quantifiers of levels
  pub closed_uncaused : (n : ℕ) (xs : List (List ℕ)) (f : FormulaTree) → IsUncaused c number f → IsUncaused c number (closed Exists n xs f)
  closed_uncaused n xs f h = record {
    bound_names = closed_nowhere (HasNoTree []) (λ x. ⊥) (λ k s. s) n xs f h.bound_names;
    variables = closed_nowhere (MentionsBound []) (IsBound []) nothing_bound n xs f h.variables;
    linear = closed_nowhere (SomeTerm (HasNonlinear c number)) (λ x. ⊥) (λ k s. s) n xs f h.linear;
    undivided = closed_nowhere (SomeTerm (HasForbidden c number)) (λ x. ⊥) (λ k s. s) n xs f h.undivided;
    congruences = closed_congruences c n xs f h.congruences;
    moduli = closed_nowhere (HasBadModulus c number) (λ x. ⊥) (λ k s. s) n xs f h.moduli;
    past = closed_nowhere (SomeTerm HasPast) (λ x. ⊥) (λ k s. s) n xs f h.past;
    passes = closed_nowhere (PassesInReading c [] number) (λ x. ⊥) (λ k s. s) n xs f h.passes;
  }

-- ---- what is accepted where so many levels are numbered

module _ (c : Context) (count : ℕ) (f : FormulaTree) (below : AreLevelsBelow count (formula_variables f)) where
  -- none applies to what is accepted
  pub accepted_uncaused : IsAccepted c [] (levels count) f → IsUncaused c (place (levels count)) f
  accepted_uncaused a = subst (λ names. IsUncaused c (place names) f) (same_names_after count f below) (record {
    bound_names = a.bound_names;
    variables = a.variables;
    linear = a.linear;
    undivided = a.undivided;
    congruences = a.congruences;
    moduli = a.moduli;
    past = λ s. a.within (inl s);
    passes = λ s. a.within (inr s);
  })

  -- it is accepted where none applies and it is not too high
  pub uncaused_accepted : IsUncaused c (place (levels count)) f → ¬ (IsTooDeep [] f) → IsAccepted c [] (levels count) f
  uncaused_accepted h low =
      let u : IsUncaused c (place (names_after (levels count) f)) f = subst (λ names. IsUncaused c (place names) f) (sym (same_names_after count f below)) h in
      record {
        bound_names = u.bound_names;
        variables = u.variables;
        linear = u.linear;
        undivided = u.undivided;
        congruences = u.congruences;
        moduli = u.moduli;
        flat = low;
        within = both u.past u.passes;
      }
    where
      both : {P Q : Type 0} → ¬ P → ¬ Q → ¬ (P ⊎ Q)
      both p q (inl s) = p s
      both p q (inr s) = q s

-- ---- heights

-- what stands under the quantifiers is no higher
pub height_inside : (n : ℕ) (xs : List (List ℕ)) (f : FormulaTree) → height_in_place [] f ≤ height_in_place [] (closed Exists n xs f)
height_inside n [] f = omega arith
height_inside n (x ∷ xs) f = let r = height_inside (suc n) xs f in omega arith
