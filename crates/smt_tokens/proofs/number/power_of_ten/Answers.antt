use Rattle.smt_tokens.proofs.Numbers.{past_power}
use Rattle.smt_tokens.proofs.number.power_of_ten.Goals as goal

pub returns-then-power : goal.returns-then-power
returns-then-power c = past_power c.args.count c.places._place c.places.power c.places.invariant.power c.places-test.true c.if-power.true
