use Rattle.std.proofs.Common.{◌≡◌, ◌-◌, ◌++◌, List, ℕ, [], length, take, drop, subst, rules}
use Rattle.std.proofs.lemmas.List.{take_all}
use Rattle.std.proofs.lemmas.Result.{IfOk-weaker}
use Rattle.redlog_run.specs.declared.answer.Answers.{Answers}
use Rattle.redlog_run.specs.Script.{Stands, StandsOrEnds}
use Rattle.redlog_run.proofs.Standing.{taken_next, ended_run}
use Rattle.redlog_run.proofs.answer.answer_script.Goals as goal

pub returns-then-step : goal.returns-then-step
returns-then-step g c =
    let script = c.args.script.now in
    let taken = c.loop-taken.taken in
    let n = c.in_ok-step.step.taken in
    let a = c.answer_next.new.answering in
    let step = c.in_ok-step.ensures.stands c.args.limits.nodes (take taken script) [] c.loop-taken.invariant.stands in
    ended_run c.args.limits.nodes script a.answers.lines.items taken n a.answers.refused
    (subst (λ b. StandsOrEnds b c.args.limits.nodes (take taken script ++ take n (take (length script - taken) (drop taken script))) a.answers.lines.items a) c.if-step.true step)

pub loop-taken-preserved : goal.loop-taken-preserved
loop-taken-preserved g c =
    let script = c.args.script.now in
    let taken = c.loop-taken.taken in
    let n = c.in_ok-step.step.taken in
    let a = c.answer_next.new.answering in
    let step = c.in_ok-step.ensures.stands c.args.limits.nodes (take taken script) [] c.loop-taken.invariant.stands in
    record {
      stands = subst (λ (xs : List ℕ). Stands c.args.limits.nodes xs a.answers.lines.items a) (taken_next script taken n)
          (subst (λ b. StandsOrEnds b c.args.limits.nodes (take taken script ++ take n (take (length script - taken) (drop taken script))) a.answers.lines.items a) c.if-step.false step);
      none = search rules;
      count = search rules;
      within = search rules;
    }

pub returns : goal.returns
returns g c =
    let script = c.args.script.now in
    let all : take c.loop-taken.taken script ≡ script = take_all c.loop-taken.taken script c.loop-taken-test.false in
    let stands = subst (λ (xs : List ℕ). Stands c.args.limits.nodes xs c.loop-taken.answering.answers.lines.items c.loop-taken.answering) all c.loop-taken.invariant.stands in
    IfOk-weaker c.answer_last.result _ _ (λ (answers : Answers) h. h c.args.limits.nodes script [] stands) c.answer_last.ensures
