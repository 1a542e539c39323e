-- Conditions that are found by cases, and those that the reference elimination gives.
use Rattle.std.proofs.Common.{◌≡◌, inl, inr, ⊎_elim, ℕ, ◌<◌, ◌≤◌, List, [], ◌∷◌, Bool, true, false, not, sym, subst, arith}
use Rattle.logic_meaning.specs.Atom.{Atom, Mentions}
use Rattle.logic_meaning.specs.Context.{Context}
use Rattle.logic_meaning.specs.Every.{Every, FreeInSome}
use Rattle.logic_meaning.specs.Formula.{Not, Or}
use Rattle.logic_meaning.specs.Shape.{IsQuantifierFree}
use Rattle.logic_meaning.specs.Plain.{IsPlain, ArePlain}
use Rattle.logic_meaning.specs.Sizes.{nodes}
use Rattle.logic_meaning.specs.Some.{EachOf}
use Rattle.logic_meaning.specs.Tree.{Tree, IsFree}
use Rattle.formula_laws.specs.Equivalence.{Equivalent}
use Rattle.formula_laws.proofs.Iff.{both_ways, turn_round, not_iff}
use Rattle.formula_laws.proofs.NormalShape.{normal_form_quantifier_free}
use Rattle.elimination_theory.proofs.BothTheories.{decided}
use Rattle.logic_meaning.specs.NormalForm.{IsNormal, negated_normal}
use Rattle.shape_theory.specs.Orderly.{IsOrderly, AreOrderly}
use Rattle.shape_theory.specs.Simplifiable.{EquivalentUnder}
use Rattle.logic_meaning.specs.Cases.{Case, case_sign, case_names}
use Rattle.logic_meaning.specs.Reference.{normal_tree}
use Rattle.elimination_theory.specs.Theorems.{IsTidy}
use Rattle.logic_meaning.specs.AnswerParts.{guards_of}
use Rattle.elimination_theory.proofs.Turning.{normal_inside, normal_truths, turned_brings}
use Rattle.case_theory.specs.CaseTree.{without_all, IsCaseUnder, SaysUnder, IsCaseTree}
use Rattle.case_theory.proofs.Under.{under_then}
use Rattle.engine_answers.specs.CaseTrees.{guards_together}
use Rattle.session_state.specs.Keeping.{IsSessionFormula}
use Rattle.form_commands.specs.Conditions.{IsConditionFor, said_of}
use Rattle.form_commands.specs.Faults.{EliminationFault, FormFault}
use Rattle.form_commands.specs.Forms.{IsSimplifiedAs, IsSimplifiedAnswer, IsFormOf}
use Rattle.form_commands.specs.declared.error.FormsError.{FormsError}
use Rattle.form_commands.specs.declared.forms.Form.TheVariants as form
use Rattle.form_commands.specs.declared.way.Way.{Way}
use Rattle.form_commands.specs.declared.way.Way.TheVariants as way
use Rattle.form_commands.proofs.CasesFor.{fewer_true}
use Rattle.form_commands.proofs.EliminatedLemmas.{plain_free, free_below, within_of_names, unquantified_bound, negation_orderly, orderly_members, orderly_every}
use Rattle.case_theory.specs.Worked.{IsWorked}
use Rattle.form_commands.proofs.CaseLemmas.{guard_orderly}

-- what the reference elimination gives, simplified, is a condition
pub condition_for : (c : Context) (ks : List Atom) (limit : ℕ) (f t : Tree) → IsSimplifiedAnswer c ks limit f t → IsConditionFor c ks limit f t
condition_for c ks limit f t h =
    let a = h.eliminated in
    let s = h.simplified in
    record {
      free = s.free (plain_free h.answer a.exact.tidy.is_plain);
      names = λ y u. a.exact.eliminated.names y (s.names y u);
      reduced = s.reduced;
      truth = λ p o u. both_ways (s.truth p o u) (turn_round (a.exact.eliminated.equivalent p o));
      small = let m = a.small in let n = s.nodes in omega arith;
      orderly = s.orderly;
      normal = s.normal;
    }

-- so is what the formula is worked on to, simplified
pub worked_condition : (c : Context) (ks : List Atom) (limit : ℕ) (f t g : Tree) → IsWorked c ks f t → IsSimplifiedAs c ks t g → nodes t ≤ limit → IsConditionFor c ks limit f g
worked_condition c ks limit f t g w s few = record {
  free = s.free (plain_free t w.tidy.is_plain);
  names = λ y u. w.names y (s.names y u);
  reduced = s.reduced;
  truth = λ p o u. both_ways (s.truth p o u) (turn_round (w.equivalent p o u));
  small = let n = s.nodes in omega (arith, n, few);
  orderly = s.orderly;
  normal = s.normal;
}

-- a form without quantifiers is a condition, whichever way it was found
pub eliminated_for : (way : Way) (c : Context) (count : ℕ) (ks : List Atom) (limit : ℕ) (f t : Tree) → IsFormOf c count ks limit (form.Eliminated way) f t → IsConditionFor c ks limit f t
eliminated_for way.ByCases c count ks limit f t h = h.condition
eliminated_for way.ByReference c count ks limit f t h = condition_for c ks limit f t h

-- and where there is none the reference elimination stops so
pub unfound_for : (way : Way) (c : Context) (count limit : ℕ) (f : Tree) (e : FormsError) → FormFault c count limit (form.Eliminated way) f e → EliminationFault c limit f e
unfound_for way.ByCases c count limit f e h = h.stops
unfound_for way.ByReference c count limit f e h = h

-- a condition for a formula of the session is one
pub condition_formula : (c : Context) (ks : List Atom) (n limit : ℕ) (f t : Tree) → IsSessionFormula c n f → IsConditionFor c ks limit f t → IsSessionFormula c n t
condition_formula c ks n limit f t own h =
    let bound = unquantified_bound (λ x. x < n) t h.free in
    record {
      normal = h.normal;
      within = record { atoms = within_of_names c n t h.normal bound (λ y u. free_below n y f own.within.atoms (h.names y u)); quantified = bound };
      members = orderly_members (IsNormal c) t h.orderly;
    }

-- ---- the guards of cases together

module _ (c : Context) where
  each_plain : (cases : List Case) → EachOf (λ (k : Case). IsTidy c k.guard) cases → ArePlain (guards_of cases)
  each_plain [] h = tt
  each_plain (k ∷ cases) h = (h.0.is_plain, each_plain cases h.1)

  together_plain : (cases : List Case) → EachOf (λ (k : Case). IsTidy c k.guard) cases → IsPlain (guards_together cases)
  together_plain [] h = tt
  together_plain (k ∷ []) h = h.0.is_plain
  together_plain (k ∷ (d ∷ cases)) h = each_plain (k ∷ d ∷ cases) h

  each_orderly : (cases : List Case) → EachOf (λ (k : Case). IsTidy c k.guard) cases → AreOrderly (IsNormal c) (guards_of cases)
  each_orderly [] h = tt
  each_orderly (k ∷ cases) h = (guard_orderly c k.guard h.0, each_orderly cases h.1)

  -- the guards together can be simplified
  pub together_orderly : (cases : List Case) → EachOf (λ (k : Case). IsTidy c k.guard) cases → IsOrderly (IsNormal c) (guards_together cases)
  together_orderly [] h = tt
  together_orderly (k ∷ []) h = guard_orderly c k.guard h.0
  together_orderly (k ∷ (d ∷ cases)) h = (tt, each_orderly (k ∷ d ∷ cases) h)

  -- what they say of the formula can be simplified
  pub said_orderly : (universal : Bool) (g : Tree) → IsOrderly (IsNormal c) g → IsOrderly (IsNormal c) (said_of universal g)
  said_orderly false g o = o
  said_orderly true g o = negation_orderly c (Not g) (orderly_every (IsNormal c) g o) (orderly_members (IsNormal c) g o)

-- they are equivalent to their disjunction, and have its free names
joined_true : (c : Context) (cases : List Case) → Equivalent c (guards_together cases) (Or (guards_of cases))
joined_true c [] p o = (λ t. t, λ t. t)
joined_true c (k ∷ []) p o = (λ t. inl t, ⊎_elim (λ t. t) absurd)
joined_true c (k ∷ (d ∷ cases)) p o = (λ t. t, λ t. t)

joined_free : (cases : List Case) (y : ℕ) → IsFree (guards_together cases) y → FreeInSome Mentions (guards_of cases) y
joined_free [] y u = u
joined_free (k ∷ []) y u = inl u
joined_free (k ∷ (d ∷ cases)) y u = u

-- each guard of a case tree is tidy, and has free names of the formula alone
pub guards_tidy : (c : Context) (ks : List Atom) (f matrix : Tree) (block : List ℕ) (cases : List Case) → EachOf (IsCaseUnder c ks f matrix block) cases → EachOf (λ (k : Case). IsTidy c k.guard) cases
guards_tidy c ks f matrix block [] h = tt
guards_tidy c ks f matrix block (k ∷ cases) h = (h.0.tidy, guards_tidy c ks f matrix block cases h.1)

guards_names : (c : Context) (ks : List Atom) (f matrix : Tree) (block : List ℕ) (cases : List Case) → EachOf (IsCaseUnder c ks f matrix block) cases → (y : ℕ) → FreeInSome Mentions (guards_of cases) y → IsFree f y
guards_names c ks f matrix block [] h y u = absurd u
guards_names c ks f matrix block (k ∷ cases) h y (inl u) = h.0.names y u
guards_names c ks f matrix block (k ∷ cases) h y (inr u) = guards_names c ks f matrix block cases h.1 y u

-- ---- a condition by cases

module _ (c : Context) (ks : List Atom) (f matrix : Tree) (normal : Every (IsNormal c) f) (cases : List Case) (h : IsCaseTree c ks f matrix cases) where
  abbrev joined : Tree
  joined = guards_together cases

  tidy : EachOf (λ (k : Case). IsTidy c k.guard) cases
  tidy = guards_tidy c (without_all (case_names f) ks) f matrix (case_names f) cases h.each

  pub joined_names : (y : ℕ) → IsFree joined y → IsFree f y
  joined_names y u = guards_names c (without_all (case_names f) ks) f matrix (case_names f) cases h.each y (joined_free cases y u)

  said_names : (universal : Bool) (y : ℕ) → IsFree (said_of universal joined) y → IsFree f y
  said_names false y u = joined_names y u
  said_names true y u = joined_names y ((turned_brings c joined y).1 u)

  said_free : (universal : Bool) → IsQuantifierFree (said_of universal joined)
  said_free false = plain_free joined (together_plain c cases tidy)
  said_free true = (normal_form_quantifier_free negated_normal joined (plain_free joined (together_plain c cases tidy))).1

  said_true : (sign : Bool) → SaysUnder c (without_all (case_names f) ks) sign f (Or (guards_of cases)) → EquivalentUnder c ks (said_of (not sign) joined) f
  said_true true s p o t = both_ways (joined_true c cases p o) (turn_round (s p o (fewer_true c ks f p t)))
  said_true false s p o t =
      let g = both_ways (joined_true c cases p o) (turn_round (s p o (fewer_true c ks f p t))) in
      let n = (normal_truths c joined p (normal_inside c joined (orderly_every (IsNormal c) joined (together_orderly c cases tidy))) o).1 in
      both_ways (turn_round n) (both_ways (not_iff g) (λ u. ⊎_elim (λ v. v) (λ v. absurd (u v)) (decided c f p (normal_inside c f normal) o), λ v w. w v))

  -- what they say, simplified, is a condition
  pub said_condition : (limit : ℕ) (universal : Bool) (t : Tree) → universal ≡ not (case_sign (normal_tree f)) → IsSimplifiedAs c ks (said_of universal joined) t → nodes (said_of universal joined) ≤ limit → IsConditionFor c ks limit f t
  said_condition limit universal t e s few = record {
    free = s.free (said_free universal);
    names = λ y u. said_names universal y (s.names y u);
    reduced = s.reduced;
    truth = under_then c ks t (said_of universal joined) f s.truth (subst (λ (b : Bool). EquivalentUnder c ks (said_of b joined) f) (sym e) (said_true (case_sign (normal_tree f)) h.together));
    small = let n = s.nodes in omega arith;
    orderly = s.orderly;
    normal = s.normal;
  }
