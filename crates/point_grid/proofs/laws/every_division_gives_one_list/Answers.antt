use Rattle.point_grid.proofs.Once.{one_truth_list}
use Rattle.point_grid.proofs.laws.every_division_gives_one_list.Goals as goal

pub returns : goal.returns
returns c = one_truth_list
