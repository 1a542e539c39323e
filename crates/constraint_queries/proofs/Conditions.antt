-- What the cases of a weak problem say together, and what is found of its target by it.
use Rattle.std.proofs.Common.{◌≡◌, ⊎_elim, inl, ℕ, List, [], ◌∷◌, true, sym, ap, ◌∙◌, subst, refl}
use Rattle.formula_laws.specs.TheoryAtoms.{AtomIn}
use Rattle.logic_meaning.specs.Context.{Fields}
use Rattle.logic_meaning.specs.Every.{Every, EveryOf}
use Rattle.logic_meaning.specs.Formula.{Or}
use Rattle.logic_meaning.specs.Point.{Point, Of}
use Rattle.logic_meaning.specs.Shape.{IsQuantifierFree}
use Rattle.logic_meaning.specs.Plain.{IsPlain, ArePlain}
use Rattle.logic_meaning.specs.Some.{EachOf}
use Rattle.logic_meaning.specs.Tree.{Tree, TrueAt}
use Rattle.formula_laws.specs.Equivalence.{Equivalent, InContext}
use Rattle.formula_laws.proofs.Iff.{both_ways}
use Rattle.normal_atoms.specs.declared.atoms.Context as atoms
use Rattle.normal_atoms.specs.Atoms.{context_of}
use Rattle.logic_meaning.specs.NormalForm.{IsNormal}
use Rattle.logic_meaning.specs.Cases.{Case, case_sign, case_formula, case_names}
use Rattle.logic_meaning.specs.Reference.{normal_tree, turned}
use Rattle.elimination_theory.specs.Theorems.{IsTidy}
use Rattle.logic_meaning.specs.AnswerParts.{guards_of}
use Rattle.elimination_theory.proofs.Tidy.{tidy_in}
use Rattle.elimination_theory.proofs.Turning.{normal_inside, normal_truths}
use Rattle.case_theory.specs.CaseTree.{without_all, SaysUnder, IsCaseTree}
use Rattle.form_commands.specs.FromEngineAnswers.{CaseTree, cases_seen, guards_together, IsCaseTreeOf}
use Rattle.formula_tree.specs.declared.shape.Shape.{Shape}
use Rattle.formula_tree.specs.Makers.{IsMade}
use Rattle.formula_store.specs.declared.id.FormulaId.{FormulaId}
use Rattle.formula_store.specs.Nodes.{tree, IsId}
use Rattle.linear_theory.specs.WeakTargets.{exs}
use Rattle.linear_theory.specs.Answer.{least_of, IsAnswer}
use Rattle.linear_theory.proofs.Targets.{target_found}
use Rattle.session_state.specs.declared.state.SessionState.{SessionState}
use Rattle.form_commands.proofs.CasesFor.{fewer_true}
use Rattle.form_commands.proofs.ConditionsFor.{guards_tidy}
use Rattle.form_commands.proofs.EliminatedLemmas.{plain_free}
use Rattle.least_search.proofs.Blocks.{exs_sign}
use Rattle.constraint_queries.specs.Found.{IsWeakProblem, IsConditionOf}

-- ---- what is asked of a weak problem

-- its cases are those of the problem itself
pub weak_sign : (f : Tree) → IsWeakProblem f → case_sign (normal_tree f) ≡ true
weak_sign f h = ap (λ g. case_sign (normal_tree g)) h.same ∙ exs_sign h.names h.matrix h.is_plain

pub asked_true : (f : Tree) → IsWeakProblem f → Every (IsNormal Fields) f → (p : Point ℕ) → Of Fields p → TrueAt Fields f p → TrueAt Fields (case_formula f) p
asked_true f h normal p o t = subst (λ b. TrueAt Fields (turned b (normal_tree f)) p) (sym (weak_sign f h)) ((normal_truths Fields f p (normal_inside Fields f normal) o).0.0 t)

-- ---- the guards together

each_plain : (cases : List Case) → EachOf (λ (k : Case). IsTidy Fields k.guard) cases → ArePlain (guards_of cases)
each_plain [] h = tt
each_plain (k ∷ cases) h = (h.0.is_plain, each_plain cases h.1)

together_plain : (cases : List Case) → EachOf (λ (k : Case). IsTidy Fields k.guard) cases → IsPlain (guards_together cases)
together_plain [] h = tt
together_plain (k ∷ []) h = h.0.is_plain
together_plain (k ∷ (d ∷ cases)) h = each_plain (k ∷ d ∷ cases) h

each_inside : (cases : List Case) → EachOf (λ (k : Case). IsTidy Fields k.guard) cases → EveryOf (AtomIn Fields) (guards_of cases)
each_inside [] h = tt
each_inside (k ∷ cases) h = (tidy_in Fields k.guard h.0, each_inside cases h.1)

together_inside : (cases : List Case) → EachOf (λ (k : Case). IsTidy Fields k.guard) cases → InContext Fields (guards_together cases)
together_inside [] h = tt
together_inside (k ∷ []) h = tidy_in Fields k.guard h.0
together_inside (k ∷ (d ∷ cases)) h = each_inside (k ∷ d ∷ cases) h

together_true : (cases : List Case) → Equivalent Fields (Or (guards_of cases)) (guards_together cases)
together_true [] p o = (λ t. t, λ t. t)
together_true (k ∷ []) p o = (⊎_elim (λ t. t) absurd, λ t. inl t)
together_true (k ∷ (d ∷ cases)) p o = (λ t. t, λ t. t)

module _ (f : Tree) (weak : IsWeakProblem f) (matrix : Tree) (cases : List Case) (h : IsCaseTree Fields [] f matrix cases) where
  all_tidy : EachOf (λ (k : Case). IsTidy Fields k.guard) cases
  all_tidy = guards_tidy Fields (without_all (case_names f) []) f matrix (case_names f) cases h.each

  together_says : Equivalent Fields f (guards_together cases)
  together_says p o =
      let said : SaysUnder Fields (without_all (case_names f) []) true f (Or (guards_of cases)) =
      subst (λ b. SaysUnder Fields (without_all (case_names f) []) b f (Or (guards_of cases))) (weak_sign f weak) h.together in
      both_ways (said p o (fewer_true Fields [] f p tt)) (together_true cases p o)

  made_condition : (after : SessionState) (id : FormulaId) → IsMade (IsId after.store) (tree after.store) id (guards_together cases) → IsConditionOf f after id
  made_condition after id made = record {
    is = made.is;
    free = subst IsQuantifierFree (sym made.same) (plain_free (guards_together cases) (together_plain cases all_tidy));
    in_fields = subst (InContext Fields) (sym made.same) (together_inside cases all_tidy);
    equivalent = subst (Equivalent Fields f) (sym made.same) together_says;
  }

module _ (c d : atoms.Context) (is : d ≡ c) (fields : context_of c ≡ Fields) (f : Tree) (weak : IsWeakProblem f) where
  -- the guards together of the cases that an engine for the theory of the state gives
  pub condition_made : (nodes : List (Shape FormulaId)) (t : CaseTree) → IsCaseTreeOf (context_of d) [] f nodes t → (after : SessionState) (id : FormulaId)
      → IsMade (IsId after.store) (tree after.store) id (guards_together (cases_seen nodes t.cases.items)) → IsConditionOf f after id
  condition_made nodes t h after id made =
      let there : IsCaseTreeOf Fields [] f nodes t = subst (λ k. IsCaseTreeOf k [] f nodes t) (ap context_of is ∙ fields) h in
      made_condition f weak (tree nodes t.matrix) (cases_seen nodes t.cases.items) there.cases after id made

-- ---- the answer by the condition

pub condition_answers : (z : ℕ) (f : Tree) → IsWeakProblem f → (after : SessionState) (id : FormulaId) → IsConditionOf f after id → IsAnswer z f (least_of z (tree after.store id))
condition_answers z f weak after id h =
    subst (λ g. IsAnswer z g (least_of z (tree after.store id))) (sym weak.same)
    (target_found z weak.names weak.matrix (tree after.store id) weak.is_plain weak.weak h.free h.in_fields (subst (λ g. Equivalent Fields g (tree after.store id)) weak.same h.equivalent))
