use Rattle.std.proofs.Common.{◌+◌, ◌*◌}
use Rattle.qe_parallel.proofs.sharing.+fn-run-join+arg2+fn-run-join+arg3+run.Given as goal

abbrev pub decreases-join+arg2 : goal.decreases-join+arg2
decreases-join+arg2 g l = 2 * l.first_workers + 1

abbrev pub decreases-join+arg3 : goal.decreases-join+arg3
decreases-join+arg3 g l = 2 * l.second_workers + 1

abbrev pub decreases-run : goal.decreases-run
decreases-run g l = 2 * l.workers
