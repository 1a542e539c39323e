-- The cases of a case tree, sampled.
use Rattle.std.proofs.Common.{◌≡◌, ℕ, List, [], ◌∷◌, ◌++◌, ◌↔◌, ap, sym, ◌∙◌, subst}
use Rattle.logic_meaning.specs.Context.{Context, Fields, Integers}
use Rattle.logic_meaning.specs.Point.{Point}
use Rattle.formula_laws.specs.StandsOnce.{StandsOnce}
use Rattle.logic_meaning.specs.Some.{Among}
use Rattle.logic_meaning.specs.Atom.{Atom, Says}
use Rattle.logic_meaning.specs.Tree.{Tree}
use Rattle.elimination_theory.proofs.SomeListed.{each_among}
use Rattle.logic_meaning.specs.Cases.{Case, case_names}
use Rattle.elimination_theory.proofs.Tidy.{tidy_in}
use Rattle.case_theory.specs.CaseTree.{without_all, IsCaseUnder}
use Rattle.case_theory.proofs.FitAt.{cases_fit_at}
use Rattle.case_theory.proofs.Without.{without_all_each}
use Rattle.logic_meaning.specs.Values.{Value}
use Rattle.case_theory.specs.Samples.{PeriodsFit, IsSampleable}
use Rattle.case_theory.specs.Reordered.{AreReordered, IsTrueCase, CaseIsSampleable, CaseTreeGivesSample}
use Rattle.case_theory.proofs.Found.{sample_of_answers}
use Rattle.case_theory.proofs.Reordered.{case_gives}

module _ (c : Context) (theory : List Atom) (f matrix : Tree) (cases : List Case) (k : Case) (p : Point ℕ) (h : IsTrueCase c theory f matrix cases k p) where
  case_is : IsCaseUnder c (without_all (case_names f) theory) f matrix (case_names f) k
  case_is = each_among (IsCaseUnder c (without_all (case_names f) theory) f matrix (case_names f)) cases k h.tree.each h.among

  sampleable : PeriodsFit c k.answers matrix p → IsSampleable c k.answers matrix p
  sampleable fit = record {
    is_plain = h.tree.tidy.is_plain;
    in_context = tidy_in c matrix h.tree.tidy;
    of_theory = h.of_theory;
    places = case_is.places;
    holds = (case_is.exact p h.of_theory (without_all_each (λ a. Says a p) (case_names f) theory h.theory_true)).1 h.guard_true;
    fit = fit;
  }

pub case_sampleable : (c : Context) → CaseIsSampleable c
case_sampleable Fields theory f matrix cases k p h = sampleable Fields theory f matrix cases k p h tt
case_sampleable Integers theory f matrix cases k p h = sampleable Integers theory f matrix cases k p h (cases_fit_at Integers theory f matrix cases k p h.tree h.among h.of_theory h.theory_true)

pub case_tree_gives : (c : Context) → CaseTreeGivesSample c
case_tree_gives c theory f matrix cases k p known all ordered h known_is e order =
    let g = sample_of_answers c k.answers matrix p known all (case_sampleable c theory f matrix cases k p h) known_is e in
    let values : g.values ≡ order.values = behind_one known g.values order.values (sym g.behind ∙ order.behind) in
    let r : AreReordered g.values ordered = record {
      once = subst (λ ns. StandsOnce ns) (sym g.true_answers.names) (case_is c theory f matrix cases k p h).answered.once;
      same = λ v. subst (λ vs. Among vs v ↔ Among ordered v) (sym values) (order.same v);
    } in
    case_gives c theory f matrix k.answers p g.values ordered h.of_theory h.theory_true h.tree.means g.true_answers r order.in_order
  where
    behind_one : (known xs ys : List Value) → known ++ xs ≡ known ++ ys → xs ≡ ys
    behind_one [] xs ys e = e
    behind_one (v ∷ known) xs ys e = behind_one known xs ys (ap rest e)
      where
        rest : List Value → List Value
        rest [] = []
        rest (v ∷ vs) = vs
