use Rattle.std.proofs.Common.{rules, ◌≡◌, List, [], ◌∷◌, ◌++◌, All, map, length, refl, sym, subst}
use Rattle.test_points.specs.declared.points.TestPoint.{TestPoint}
use Rattle.test_points.specs.Points.{answer_of, IsTestPoint}
use Rattle.reference_engine.specs.declared.cases.PrintedCase.{PrintedCase}
use Rattle.reference_engine.specs.Case.{case_seen, HavePoints}
use Rattle.reference_engine.proofs.Standing.{points_pushed, nothing}
use Rattle.form_commands.specs.Lowest.{lowest_answer, lowest_case}
use Rattle.form_commands.proofs.LowestCases.{cases_more, cases_end}
use Rattle.form_commands.proofs.lowest.lowest_cases.Goals as goal

pub lowest_answers-requires : goal.lowest_answers-requires
lowest_answers-requires c =
    let split : c.loop-case.case-iterator.rest.items ≡ c.in-Some.case ∷ c.next.new.self.rest.items = search rules in
    let rest : HavePoints (c.in-Some.case ∷ c.next.new.self.rest.items) = subst HavePoints split c.loop-case.invariant.rest in
    subst (All IsTestPoint) (sym c.deref.ensures.value) rest.0

pub loop-case-preserved : goal.loop-case-preserved
loop-case-preserved c =
    let k = c.in-Some.case in
    let left = c.next.new.self.rest.items in
    let split : c.loop-case.case-iterator.rest.items ≡ k ∷ left = search rules in
    let m : PrintedCase = record { guard = k.guard; answers = c.in_ok-answers.answers } in
    let pushed : c.push.new.self.items ≡ c.loop-case.lowest.items ++ m ∷ [] = search rules in
    let answers = subst (λ (ts : List TestPoint). map answer_of c.in_ok-answers.answers.items ≡ map lowest_answer (map answer_of ts)) c.deref.ensures.value c.in_ok-answers.ensures.answers in
    let rest : HavePoints (k ∷ left) = subst HavePoints split c.loop-case.invariant.rest in
    record {
      can = tt;
      finite = tt;
      cases = cases_more c.loop-case.lowest.items c.push.new.self.items k m left (map lowest_case (map case_seen c.args.cases.items))
          (subst (λ (xs : List PrintedCase). map case_seen c.loop-case.lowest.items ++ map lowest_case (map case_seen xs) ≡ map lowest_case (map case_seen c.args.cases.items)) split c.loop-case.invariant.cases) refl answers pushed;
      points = points_pushed c.loop-case.lowest.items c.push.new.self.items m c.loop-case.invariant.points c.in_ok-answers.ensures.points pushed;
      rest = rest.1;
    }

pub returns-clause-cases : goal.returns-clause-cases
returns-clause-cases c =
    let none_left : length c.loop-case.case-iterator.rest.items ≡ 0 = search rules in
    cases_end c.loop-case.lowest.items c.loop-case.case-iterator.rest.items (map lowest_case (map case_seen c.args.cases.items)) c.loop-case.invariant.cases (nothing c.loop-case.case-iterator.rest.items none_left)
