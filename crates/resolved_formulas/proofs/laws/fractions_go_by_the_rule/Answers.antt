use Rattle.resolved_formulas.proofs.RuleLaw.{rule_of_fractions}
use Rattle.resolved_formulas.proofs.laws.fractions_go_by_the_rule.Goals as goal

pub returns : goal.returns
returns c = rule_of_fractions
