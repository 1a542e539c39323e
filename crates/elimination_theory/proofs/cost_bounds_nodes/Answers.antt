use Rattle.elimination_theory.proofs.Bounded.{cost_bounds}
use Rattle.elimination_theory.proofs.cost_bounds_nodes.Goals as goal

pub returns : goal.returns
returns c = cost_bounds
