use Rattle.std.proofs.lemmas.Int.{to_z-of_z}
use Rattle.program_meaning.specs.GridPoints.{AxisPasses}
use Rattle.point_grid.specs.Steps.{HasSteps}
use Rattle.point_grid.proofs.Lists.{each_at, some_at}
use Rattle.point_grid.proofs.parts.scales_over.Goals as goal

pub scale_over-requires-clause-common : goal.scale_over-requires-clause-common
scale_over-requires-clause-common c =
    let f = c.ranges.denominator in
    let h = each_at (HasSteps c.args.denominator) c.args.axes.now c.loop-axis.axis-index c.axis-item.result c.loop-axis-test.true c.axis-item.is c.requires.steps in
    simp to_z-of_z h.multiple

pub returns-in_default-clause-overflow : goal.returns-in_default-clause-overflow
returns-in_default-clause-overflow c =
    let f = c.ranges.denominator in
    let h : AxisPasses c.args.denominator c.axis-item.result = simp to_z-of_z at c.in_default.ensures in
    λ _. some_at (AxisPasses c.args.denominator) c.args.axes.now c.loop-axis.axis-index c.axis-item.result c.loop-axis-test.true c.axis-item.is h
