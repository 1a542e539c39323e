use Rattle.std.proofs.Common.{subst}
use Rattle.formula_store.specs.Nodes.{AreNodes}
use Rattle.formula_store.proofs.store.Store.len.Goals as goal

pub returns-clause-nodes : goal.returns-clause-nodes
returns-clause-nodes c = subst AreNodes c.self.view_is c.self.invariant.nodes
