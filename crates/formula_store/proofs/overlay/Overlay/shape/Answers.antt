use Rattle.std.proofs.Common.{◌≡◌, ◌-◌, Some, slice_get, sym, subst, arith}
use Rattle.std.specs.Map.{keys_of}
use Rattle.formula_store.specs.Layers.{all}
use Rattle.formula_store.specs.Nodes.{AreNodes}
use Rattle.formula_store.proofs.Keys.{key_at}
use Rattle.formula_store.proofs.Places.{place_left, place_right}
use Rattle.formula_store.proofs.Trees.{node_tree}
use Rattle.formula_store.proofs.overlay.Overlay.shape.Goals as goal

pub returns-then-id-self-clause-node : goal.returns-then-id-self-clause-node
returns-then-id-self-clause-node c =
    subst (λ v. slice_get (all v) c.args.id.number ≡ Some c.shape.result.now) c.self.view_is (place_left c.self.inside.store.now (keys_of c.self.inside.own.entries) c.args.id.number c.shape.result.now c.shape.ensures.node)

pub returns-then-id-self-clause-tree : goal.returns-then-id-self-clause-tree
returns-then-id-self-clause-tree c =
    let nodes : AreNodes (all c.args.self.now) = subst (λ v. AreNodes (all v)) c.self.view_is c.self.invariant.stored.nodes in
    node_tree (all c.args.self.now) c.args.id.number c.shape.result.now nodes (returns-then-id-self-clause-node c)

pub returns-then-id-self-clause-nodes : goal.returns-then-id-self-clause-nodes
returns-then-id-self-clause-nodes c = subst (λ v. AreNodes (all v)) c.self.view_is c.self.invariant.stored.nodes

pub returns-clause-nodes : goal.returns-clause-nodes
returns-clause-nodes c = subst (λ v. AreNodes (all v)) c.self.view_is c.self.invariant.stored.nodes

pub returns-clause-node : goal.returns-clause-node
returns-clause-node c =
    let place = c.args.id.number - c.self.inside.begun in
    let e : slice_get c.self.inside.own.entries (c.args.id.number - c.self.inside.begun) ≡ Some (c.unwrap.result.0.now, c.unwrap.result.1.now) = rw c.unwrap.ensures at (sym c.get_index.ensures.entry) in
    subst (λ v. slice_get (all v) c.args.id.number ≡ Some c.unwrap.result.0.now) c.self.view_is
    (place_right c.self.inside.store.now (keys_of c.self.inside.own.entries) (c.args.id.number - c.self.inside.begun) c.args.id.number c.unwrap.result.0.now (omega (arith, c.if-id-self.false, c.self.invariant.size))
    (key_at c.self.inside.own.entries (c.args.id.number - c.self.inside.begun) c.unwrap.result.0.now c.unwrap.result.1.now e))

pub returns-clause-tree : goal.returns-clause-tree
returns-clause-tree c = node_tree (all c.args.self.now) c.args.id.number c.unwrap.result.0.now (returns-clause-nodes c) (returns-clause-node c)

pub returns-clause-ids : goal.returns-clause-ids
returns-clause-ids c = let a = returns-clause-nodes c in a.below c.args.id.number c.unwrap.result.0.now (returns-clause-node c)

pub returns-clause-proper : goal.returns-clause-proper
returns-clause-proper c = let a = returns-clause-nodes c in a.proper c.args.id.number c.unwrap.result.0.now (returns-clause-node c)
