-- The cases are the branches of the leading block.
use Rattle.std.proofs.Common.{◌≡◌, ℕ, Bool, true, false, List, [], ◌∷◌, refl, ap, sym, subst, ◌∙◌}
use Rattle.logic_meaning.specs.Context.{Context}
use Rattle.logic_meaning.specs.Formula.{Or, also}
use Rattle.logic_meaning.specs.Every.{Every}
use Rattle.logic_meaning.specs.Some.{EachOf}
use Rattle.logic_meaning.specs.Tree.{Tree, Trees, IsFree}
use Rattle.formula_laws.specs.Equivalence.{Equivalent}
use Rattle.formula_laws.proofs.Iff.{both_ways}
use Rattle.logic_meaning.specs.Answers.{Step, answers_of}
use Rattle.elimination_theory.proofs.Answers.{answers_hold}
use Rattle.logic_meaning.specs.NormalForm.{IsNormal}
use Rattle.logic_meaning.specs.Reference.{Branch, branch_trees, normal_tree, turned, leading_branches}
use Rattle.logic_meaning.specs.Cases.{Case, cases_of, case_sign, case_formula, case_matrix, case_names}
use Rattle.elimination_theory.specs.Theorems.{IsExactCase, Says, AreExactCases, CasesAreExact}
use Rattle.logic_meaning.specs.AnswerParts.{guards_of, answer_names}
use Rattle.elimination_theory.proofs.Always.{gives_then}
use Rattle.elimination_theory.proofs.Turning.{normal_inside, normal_tree_inside, normal_truths, turned_brings}
use Rattle.elimination_theory.proofs.Branches.{step_names, IsBranch, AreBranches}
use Rattle.elimination_theory.proofs.Sound.{leading_are}

pub guards_are : (bs : List Branch) → guards_of (cases_of bs) ≡ branch_trees bs
guards_are [] = refl
guards_are (b ∷ bs) = ap (also b.tree) (guards_are bs)

pub names_are : (steps : List Step) → answer_names (answers_of steps) ≡ step_names steps
names_are [] = refl
names_are (s ∷ steps) = ap (λ ns. s.name ∷ ns) (names_are steps)

module _ (c : Context) (f : Tree) where
  each_exact : (bs : List Branch) → EachOf (IsBranch c (case_matrix f) (case_names f)) bs → EachOf (IsExactCase c f) (cases_of bs)
  each_exact [] h = tt
  each_exact (b ∷ bs) h = (
    record {
      exact = λ p o. answers_hold c b.steps (case_matrix f) b.tree p h.0.lead o;
      in_order = names_are b.steps ∙ h.0.in_order;
      tidy = h.0.tidy;
    },
    each_exact bs h.1,
  )

  -- what is equivalent to the formula, or its negation, in negation normal form says the same of the formula
  pub says : (sign : Bool) (g : Tree) → Every (IsNormal c) f → Equivalent c (turned sign (normal_tree f)) g → Says c sign f g
  says true g n e = λ p o. both_ways (normal_truths c f p (normal_inside c f n) o).0 (e p o)
  says false g n e = λ p o.
      let i = (normal_truths c f p (normal_inside c f n) o).0 in
      let j = (normal_truths c (normal_tree f) p (normal_tree_inside c f n) o).1 in
      let k = e p o in
      (λ m. k.0 (j.0 (λ t. m (i.1 t))), λ t u. j.1 (k.1 t) (i.0 u))

  pub free : (sign : Bool) (y : ℕ) → IsFree (turned sign (normal_tree f)) y → IsFree f y
  free true y t = (turned_brings c f y).0 t
  free false y t = (turned_brings c f y).0 ((turned_brings c (normal_tree f) y).1 t)

pub cases_exact : (c : Context) → CasesAreExact c
cases_exact c limit f n =
    let sign = case_sign (normal_tree f) in
    gives_then (λ (r : List Branch × ℕ). AreBranches c (case_formula f) (case_matrix f) (case_names f) r.0) (λ (r : List Case × ℕ). AreExactCases c f r.0) (leading_branches c limit sign f 0) _
    (leading_are c limit sign f n 0)
    (λ r i. record {
      each = each_exact c f r.0 i.each;
      together = says c f sign (Or (guards_of (cases_of r.0))) n (subst (λ (ts : Trees). Equivalent c (case_formula f) (Or ts)) (sym (guards_are r.0)) i.equivalent);
      names = λ y t. free c f sign y (i.free y (subst (λ (ts : Trees). IsFree (Or ts) y) (guards_are r.0) t));
    })
