use Rattle.std.proofs.Common.{◌≡◌, arith}
use Rattle.engine_answers.proofs.EngineAnswersSampled.{value_there}
use Rattle.engine_answers.proofs.samples.value_of.Goals as goal

pub returns-then-value-name : goal.returns-then-value-name
returns-then-value-name c =
    let same : c.value-item.result.0.number ≡ c.args.name.number = omega arith in
    record { named = same; among = value_there c.args.values.now c.loop-value.value-index c.value-item.result c.loop-value-test.true c.value-item.is }
