use Rattle.std.proofs.Common.{rules, FitsSigned, ap₂, ◌∙◌}
use Rattle.std.specs.Int.{w128}
use Rattle.std.proofs.lemmas.Int.{to_z-of_z}
use Rattle.exact_numbers.specs.Frac.{lowest}
use Rattle.searched_verdicts.proofs.LowestValues.{values_more}
use Rattle.searched_verdicts.proofs.witnesses.witnesses_at.Goals as goal

pub loop-number-preserved : goal.loop-number-preserved
loop-number-preserved c =
    let numerator : FitsSigned w128 c.get-numerator.result = search rules in
    let denominator : FitsSigned w128 c.denominator-denominator.result = search rules in
    values_more c.args.at.now c.loop-number.number c.loop-number.values.items c.push.new.self.items c.reduced.result c.loop-number.invariant
    (c.reduced.ensures.rule ∙ ap₂ lowest (to_z-of_z w128 c.get-numerator.result numerator ∙ c.get-numerator.ensures) (to_z-of_z w128 c.denominator-denominator.result denominator ∙ c.denominator-denominator.ensures.value)) c.in_ok-push.ensures.items
