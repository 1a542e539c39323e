use Rattle.std.proofs.Common.{◌≡◌, ◌<◌, Some, slice_get, length, sym, subst, arith}
use Rattle.formula_tree.proofs.Shapes.{all_ids_map}
use Rattle.formula_store.specs.declared.id.FormulaId.{FormulaId}
use Rattle.formula_store.specs.Nodes.{IsId, AreNodes}
use Rattle.formula_store.proofs.Keys.{key_at}
use Rattle.formula_store.proofs.Trees.{node_tree}
use Rattle.formula_store.proofs.store.Store.shape.Goals as goal

pub returns-clause-node : goal.returns-clause-node
returns-clause-node c =
    let e : slice_get c.self.inside.nodes.entries c.args.id.number ≡ Some (c.unwrap.result.0.now, c.unwrap.result.1.now) = rw c.unwrap.ensures at (sym c.get_index.ensures.entry) in
    subst (λ s. slice_get s c.args.id.number ≡ Some c.unwrap.result.0.now) c.self.view_is (key_at c.self.inside.nodes.entries c.args.id.number c.unwrap.result.0.now c.unwrap.result.1.now e)

pub returns-clause-tree : goal.returns-clause-tree
returns-clause-tree c =
    let nodes : AreNodes c.args.self.now = subst AreNodes c.self.view_is c.self.invariant.nodes in
    node_tree c.args.self.now c.args.id.number c.unwrap.result.0.now nodes (returns-clause-node c)

pub returns-clause-ids : goal.returns-clause-ids
returns-clause-ids c =
    let nodes : AreNodes c.args.self.now = subst AreNodes c.self.view_is c.self.invariant.nodes in
    nodes.below c.args.id.number c.unwrap.result.0.now (returns-clause-node c)

pub returns-clause-proper : goal.returns-clause-proper
returns-clause-proper c =
    let nodes : AreNodes c.args.self.now = subst AreNodes c.self.view_is c.self.invariant.nodes in
    nodes.proper c.args.id.number c.unwrap.result.0.now (returns-clause-node c)

pub returns-clause-nodes : goal.returns-clause-nodes
returns-clause-nodes c = subst AreNodes c.self.view_is c.self.invariant.nodes

pub returns-clause-members : goal.returns-clause-members
returns-clause-members c =
    let nodes : AreNodes c.args.self.now = subst AreNodes c.self.view_is c.self.invariant.nodes in
    let below : c.args.id.number < length c.args.self.now = c.requires.below in
    all_ids_map (λ (member : FormulaId). member.number < c.args.id.number) (IsId c.args.self.now) (λ member h. record { below = omega arith; are = nodes }) c.unwrap.result.0.now (returns-clause-ids c)
