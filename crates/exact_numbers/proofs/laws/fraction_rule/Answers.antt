use Rattle.std.proofs.Common.{refl}
use Rattle.exact_numbers.specs.Frac.{power_steps}
use Rattle.exact_numbers.proofs.FractionRule.{sum_step_gives, product_step_gives}
use Rattle.exact_numbers.proofs.Powers.{power_outcome}
use Rattle.exact_numbers.proofs.laws.fraction_rule.Goals as goal

pub returns : goal.returns
returns c = record { sum = sum_step_gives; product = product_step_gives; power = λ p n h. power_outcome p n (power_steps p n) h refl }
