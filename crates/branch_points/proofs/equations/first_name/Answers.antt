use Rattle.std.proofs.Common.{◌∙◌, ap}
use Rattle.std.specs.Int.{w128, cast_unsigned}
use Rattle.branch_points.proofs.Names.{at_place}
use Rattle.branch_points.proofs.equations.first_name.Goals as goal

pub returns-then-coefficient-ne0 : goal.returns-then-coefficient-ne0
returns-then-coefficient-ne0 c =
    (at_place c.args.left.now c.loop-name.name-index (record { number = 0 }) c.loop-name-test.true, λ z. c.if-coefficient-ne0.true (ap (cast_unsigned w128) (c.coefficient.ensures.value ∙ z)))
