use Rattle.std.proofs.Common.{arith}
use Rattle.branch_pruning.proofs.Walking.{all_enough}
use Rattle.branch_pruning.proofs.cutting.all_needed.Goals as goal

pub returns : goal.returns
returns c o ks us e = let v = c.in_ok-vec.field-0 in let h = c.in_ok-vec.ensures in all_enough o ks us v.items c.args.count e (omega arith) (h.items_if_clones_equal (λ y i. i))
