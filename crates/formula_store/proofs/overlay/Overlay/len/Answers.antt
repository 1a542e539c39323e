use Rattle.std.proofs.Common.{subst}
use Rattle.formula_store.specs.Layers.{all}
use Rattle.formula_store.specs.Nodes.{AreNodes}
use Rattle.formula_store.proofs.overlay.Overlay.len.Goals as goal

pub returns-clause-nodes : goal.returns-clause-nodes
returns-clause-nodes c = subst (λ v. AreNodes (all v)) c.self.view_is c.self.invariant.stored.nodes
