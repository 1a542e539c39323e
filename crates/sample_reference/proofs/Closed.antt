-- The sample of a formula without free names is true.
use Rattle.std.proofs.Common.{◌≡◌, ℕ, List, [], Option, Some, None, refl, ◌∙◌}
use Rattle.logic_meaning.specs.Context.{Context}
use Rattle.logic_meaning.specs.Formula.{Yes}
use Rattle.logic_meaning.specs.Every.{Every}
use Rattle.logic_meaning.specs.Tree.{Tree, TrueAt, IsFree}
use Rattle.logic_meaning.specs.Answers.{Step}
use Rattle.logic_meaning.specs.NormalForm.{IsNormal}
use Rattle.logic_meaning.specs.Measured.{Outcome, stopped, done, then_of}
use Rattle.formula_laws.specs.Giving.{Gives}
use Rattle.logic_meaning.specs.Reference.{Branch, branch_trees, normal_tree, leading_branches}
use Rattle.logic_meaning.specs.Cases.{case_sign, case_formula, case_matrix, case_names}
use Rattle.logic_meaning.specs.Sample.{first_true}
use Rattle.elimination_theory.proofs.Branches.{AreBranches}
use Rattle.elimination_theory.proofs.CasesExact.{free}
use Rattle.elimination_theory.proofs.Sample.{Chosen, found}
use Rattle.elimination_theory.proofs.Sound.{leading_are}
use Rattle.logic_meaning.specs.Values.{Value, origin}
use Rattle.logic_meaning.specs.Calculated.{values_from}
use Rattle.logic_meaning.specs.ReferenceSample.{sampled}
use Rattle.sample_reference.specs.TrueSample.{AreTrueValues, IsTrueSample}
use Rattle.sample_reference.specs.Theorems.{ClosedSampleIsTrue}
use Rattle.sample_reference.proofs.Chain.{AreFound, values_true, origin_of}
use Rattle.sample_reference.proofs.Sound.{IsChosen, first_chosen, gives_values}

-- ---- the sample

module _ (c : Context) (limit : ℕ) (f : Tree) (n : Every (IsNormal c) f) (closed : (y : ℕ) → ¬ (IsFree f y)) where
  values_are : (steps : List Step) (values : List Value) → TrueAt c (case_formula f) origin → IsChosen c (case_matrix f) (case_names f) steps → values_from c steps [] ≡ Some values → AreTrueValues c f origin values
  values_are steps values t chosen e =
      let given : AreFound c (case_matrix f) steps [] values = values_true c steps (case_matrix f) Yes [] values chosen.lead tt tt e in
      record { asked = t; names = given.names ∙ chosen.in_order; each = given.each; matrix = given.matrix }

  sample_of_branches : (bs : List Branch) (cost : ℕ) → AreBranches c (case_formula f) (case_matrix f) (case_names f) bs → Gives (λ r. IsTrueSample c f origin r.0) (sampled c cost (first_true bs))
  sample_of_branches bs cost h =
      go (first_true bs) refl (found c (case_matrix f) (case_names f) origin bs h.each (λ y t. closed y (free c f (case_sign (normal_tree f)) y (h.free y t))))
    where
      go : (o : Option (List Step)) → first_true bs ≡ o → Chosen c (case_matrix f) (case_names f) origin (branch_trees bs) o → Gives (λ (r : Option (List Value) × ℕ). IsTrueSample c f origin r.0) (sampled c cost o)
      go None e k = λ t. k ((h.equivalent origin (origin_of c)).0 t)
      go (Some steps) e k =
          gives_values c cost steps (IsTrueSample c f origin) (λ values v.
          values_are steps values ((h.equivalent origin (origin_of c)).1 k.1) (first_chosen c (case_matrix f) (case_names f) bs steps h.each e) v)

pub closed_sample_true : (c : Context) → ClosedSampleIsTrue c
closed_sample_true c limit f n closed = go (leading_branches c limit (case_sign (normal_tree f)) f 0) (leading_are c limit (case_sign (normal_tree f)) f n 0)
  where
    go : (u : Outcome (List Branch × ℕ)) → Gives (λ (r : List Branch × ℕ). AreBranches c (case_formula f) (case_matrix f) (case_names f) r.0) u → Gives (λ (r : Option (List Value) × ℕ). IsTrueSample c f origin r.0) (then_of u (λ r. sampled c r.1 (first_true r.0)))
    go (stopped s) h = tt
    go (done r) h = sample_of_branches c limit f n closed r.0 r.1 h
