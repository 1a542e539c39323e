use Rattle.std.proofs.Common.{refl}
use Rattle.engine_answers.proofs.SentenceAnswersTold.{true_there}
use Rattle.engine_answers.proofs.cases.some_true.Goals as goal

pub returns-then-is_true : goal.returns-then-is_true
returns-then-is_true c = let there = true_there c.args.store.now c.args.cases.now c.loop-case.case-index c.case-item.result c.loop-case-test.true c.case-item.is (c.is_true.ensures.0 c.if-is_true.true) in (λ t. there, λ s. refl)
