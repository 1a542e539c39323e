use Rattle.std.proofs.Common.{refl}
use Rattle.clause_search.proofs.solver.Solver.add.Goals as goal

pub returns-in_ok-attach-2 : goal.returns-in_ok-attach-2
returns-in_ok-attach-2 c = λ q sound. (c.in_ok-place.ensures.grown q.nodes).sound q refl sound

pub returns-in_default : goal.returns-in_default
returns-in_default c = λ q sound. (c.in_ok-place.ensures.grown q.nodes).sound q refl sound
