use Rattle.qe_parallel.proofs.Filling as filling
use Rattle.qe_parallel.proofs.laws.every_order_gives_one_list.Goals as goal

pub returns : goal.returns
returns g c worker = filling.every_order_gives_one_list (g.W.Worker.answers worker)
