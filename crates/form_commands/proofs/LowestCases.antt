-- Cases whose answers are brought to lowest terms: they promise what they promised.
use Rattle.std.proofs.Common.{◌≡◌, ◌⊎◌, ℕ, List, [], ◌∷◌, ◌++◌, map, append_assoc, ap, sym, ◌∙◌, subst, refl}
use Rattle.std.proofs.lemmas.List.{append-nil}
use Rattle.std.proofs.lemmas.List.Elements.{recursion_from_All}
use Rattle.std.specs.Prelude.{IsPermutation}
use Rattle.std.specs.List.{AllByRecursion}
use Rattle.logic_meaning.specs.Answer.{Answer, IsSortedPlace}
use Rattle.logic_meaning.specs.AnswerParts.{guards_of, answer_names}
use Rattle.logic_meaning.specs.Atom.{Atom}
use Rattle.logic_meaning.specs.BothTheories.{IsPlaceIn}
use Rattle.logic_meaning.specs.Cases.{Case, case_sign, case_matrix, case_names}
use Rattle.logic_meaning.specs.Context.{Context}
use Rattle.logic_meaning.specs.Formula.{Or, also}
use Rattle.logic_meaning.specs.Over.{AreAnswersOver}
use Rattle.logic_meaning.specs.Overflow.{PlaceWithin}
use Rattle.logic_meaning.specs.Reference.{normal_tree}
use Rattle.logic_meaning.specs.Some.{EachOf}
use Rattle.logic_meaning.specs.Tree.{Tree, IsFree}
use Rattle.formula_tree.specs.Trees.{tree_of}
use Rattle.formula_laws.proofs.Iff.{both_ways}
use Rattle.case_theory.specs.CaseTree.{SaysUnder}
use Rattle.elimination_theory.specs.LowestPoints.{IsInLowestTerms}
use Rattle.test_points.specs.declared.points.TestPoint.{TestPoint}
use Rattle.test_points.specs.Points.{answer_of, IsTestPoint}
use Rattle.reference_engine.specs.declared.cases.PrintedCase.{PrintedCase}
use Rattle.reference_engine.specs.Case.{case_seen, HavePoints}
use Rattle.reference_engine.proofs.Standing.{case_pushed}
use Rattle.form_commands.specs.Cases.{IsCaseFor, AreCasesFor}
use Rattle.form_commands.specs.Lowest.{lowest_answer, lowest_case, AreLowest}
use Rattle.form_commands.proofs.CasesFor.{point_numbers}
use Rattle.form_commands.proofs.LowestPlaces.{holds_lowest, lowest_is}

-- ---- case after case

-- one case more
pub cases_more : (made made2 : List PrintedCase) (k m : PrintedCase) (rest : List PrintedCase) (all : List Case) → map case_seen made ++ map lowest_case (map case_seen (k ∷ rest)) ≡ all → m.guard ≡ k.guard
    → map answer_of m.answers.items ≡ map lowest_answer (map answer_of k.answers.items) → made2 ≡ made ++ m ∷ [] → map case_seen made2 ++ map lowest_case (map case_seen rest) ≡ all
cases_more made made2 k m rest all so_far guard answers pushed =
    let one : case_seen m ≡ lowest_case (case_seen k) = λ i. record { guard = tree_of (guard i); answers = answers i } in
    ap (λ ks. ks ++ map lowest_case (map case_seen rest)) (case_pushed made made2 m pushed ∙ ap (λ n. map case_seen made ++ n ∷ []) one)
    ∙ append_assoc (map case_seen made) (lowest_case (case_seen k) ∷ []) (map lowest_case (map case_seen rest)) ∙ so_far

pub cases_end : (made rest : List PrintedCase) (all : List Case) → map case_seen made ++ map lowest_case (map case_seen rest) ≡ all → rest ≡ [] → map case_seen made ≡ all
cases_end made rest all so_far none = sym (append-nil (map case_seen made)) ∙ ap (λ ks. map case_seen made ++ map lowest_case (map case_seen ks)) (sym none) ∙ so_far

-- ---- numbers

-- the form of each place is sorted, and its numbers are within the limit
abbrev Numbered : List Answer → Type 0
Numbered answers = EachOf (λ (a : Answer). IsSortedPlace a.place × PlaceWithin a.place) answers

points_numbered : (ts : List TestPoint) → AllByRecursion IsTestPoint ts → Numbered (map answer_of ts)
points_numbered [] h = tt
points_numbered (t ∷ ts) h = (point_numbers t h.0, points_numbered ts h.1)

cases_numbered : (items : List PrintedCase) → HavePoints items → EachOf (λ (k : Case). Numbered k.answers) (map case_seen items)
cases_numbered [] h = tt
cases_numbered (k ∷ items) h = (points_numbered k.answers.items (recursion_from_All IsTestPoint k.answers.items h.0), cases_numbered items h.1)

-- ---- one case

answers_in : (c : Context) (P : ℕ → Type 0) (answers : List Answer) → AreAnswersOver c P answers → EachOf (λ (a : Answer). IsPlaceIn c a.place) answers
answers_in c P [] over = tt
answers_in c P (a ∷ answers) over = (over.0.place, answers_in c (λ y. P y ⊎ (a.name ≡ y)) answers over.1)

lowest_over : (c : Context) (P : ℕ → Type 0) (answers : List Answer) → AreAnswersOver c P answers → Numbered (map lowest_answer answers) → AreAnswersOver c P (map lowest_answer answers)
lowest_over c P [] over numbers = tt
lowest_over c P (a ∷ answers) over numbers =
    let l = lowest_is c a.place over.0.place in
    (record { place = l.place; sorted = numbers.0.0; within = numbers.0.1; names = λ y m. over.0.names y (l.names y m) }, lowest_over c (λ y. P y ⊎ (a.name ≡ y)) answers over.1 numbers.1)

all_lowest : (c : Context) (P : ℕ → Type 0) (answers : List Answer) → AreAnswersOver c P answers → EachOf (λ (a : Answer). IsInLowestTerms a.place) (map lowest_answer answers)
all_lowest c P [] over = tt
all_lowest c P (a ∷ answers) over = ((lowest_is c a.place over.0.place).lowest, all_lowest c (λ y. P y ⊎ (a.name ≡ y)) answers over.1)

names_lowest : (answers : List Answer) → answer_names (map lowest_answer answers) ≡ answer_names answers
names_lowest [] = refl
names_lowest (a ∷ answers) = ap (λ xs. a.name ∷ xs) (names_lowest answers)

guards_lowest : (cases : List Case) → guards_of (map lowest_case cases) ≡ guards_of cases
guards_lowest [] = refl
guards_lowest (k ∷ cases) = ap (also k.guard) (guards_lowest cases)

module _ (c : Context) (ks : List Atom) (f : Tree) where
  case_lowest : (k : Case) → IsCaseFor c ks f k → Numbered (map lowest_answer k.answers) → IsCaseFor c ks f (lowest_case k)
  case_lowest k h numbers = record {
    free = h.free;
    names = h.names;
    reduced = h.reduced;
    possible = h.possible;
    normal = h.normal;
    orderly = h.orderly;
    numbers = h.numbers;
    once = subst (IsPermutation (case_names f)) (sym (names_lowest k.answers)) h.once;
    answers = lowest_over c (IsFree f) k.answers h.answers numbers;
    exact = λ p o t. both_ways (holds_lowest c k.answers (case_matrix f) p (answers_in c (IsFree f) k.answers h.answers)) (h.exact p o t);
  }

  each_lowest : (cases : List Case) → EachOf (IsCaseFor c ks f) cases → EachOf (λ (k : Case). Numbered k.answers) (map lowest_case cases) → EachOf (IsCaseFor c ks f) (map lowest_case cases)
  each_lowest [] each numbers = tt
  each_lowest (k ∷ cases) each numbers = (case_lowest k each.0 numbers.0, each_lowest cases each.1 numbers.1)

  are_lowest : (cases : List Case) → EachOf (IsCaseFor c ks f) cases → AreLowest (map lowest_case cases)
  are_lowest [] each = tt
  are_lowest (k ∷ cases) each = (all_lowest c (IsFree f) k.answers each.0.answers, are_lowest cases each.1)

  -- ---- all cases

  module _ (cases : List Case) (items : List PrintedCase) (h : AreCasesFor c ks f cases) (same : map case_seen items ≡ map lowest_case cases) where
    pub lowest_for : HavePoints items → AreCasesFor c ks f (map case_seen items)
    lowest_for points =
        subst (AreCasesFor c ks f) (sym same)
        (record {
          each = each_lowest cases h.each (subst (EachOf (λ (k : Case). Numbered k.answers)) same (cases_numbered items points));
          together = subst (λ guards. SaysUnder c ks (case_sign (normal_tree f)) f (Or guards)) (sym (guards_lowest cases)) h.together;
        })

    pub lowest_there : AreLowest (map case_seen items)
    lowest_there = subst AreLowest (sym same) (are_lowest cases h.each)
