use Rattle.std.proofs.Common.{◌≡◌, true, subst}
use Rattle.formula_store.specs.Nodes.{tree}
use Rattle.formula_store.specs.Truths.{Tells}
use Rattle.linear_forms.specs.Values.{point_of}
use Rattle.engine_answers.specs.Truths.{CanBeTold}
use Rattle.engine_answers.proofs.Told.{each_there, among_there}
use Rattle.engine_answers.proofs.truths.true_case.Goals as goal

pub truth-requires-clause-whole : goal.truth-requires-clause-whole
truth-requires-clause-whole c = (each_there (CanBeTold c.args.store.now c.args.at.now.denominator) c.args.cases.now c.loop-case.case-index c.case-item.result c.loop-case-test.true c.case-item.is c.requires).whole

pub returns-in-Ok-true : goal.returns-in-Ok-true
returns-in-Ok-true c =
    let is : c.in-Ok-true.field-0 ≡ true = cc in
    let told = subst (λ b. Tells b (tree c.args.store.now c.case-item.result.guard) (point_of c.args.at.now)) c.in-Ok-true.field-0-is c.in-Ok-true.ensures.truth in (
      among_there c.args.cases.now c.loop-case.case-index c.case-item.result c.loop-case-test.true c.case-item.is,
      subst (λ b. Tells b (tree c.args.store.now c.case-item.result.guard) (point_of c.args.at.now)) is told,
    )
