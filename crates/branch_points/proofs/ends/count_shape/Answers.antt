use Rattle.std.proofs.Common.{nat_eq}
use Rattle.std.specs.HashMap.{get}
use Rattle.std.proofs.lemmas.Result.{IfOk-weaker}
use Rattle.branch_points.proofs.CountedEnds.{shape_more}
use Rattle.branch_points.proofs.ends.count_shape.Goals as goal

pub returns-in-One : goal.returns-in-One
returns-in-One c =
    IfOk-weaker c.count_atom.result _ _
    (λ u more atoms are. shape_more c.args.shape.now c.in-One.atom atoms (get nat_eq c.args.table.now) (get nat_eq c.count_atom.new.table) c.in-One.is more are) c.count_atom.ensures
