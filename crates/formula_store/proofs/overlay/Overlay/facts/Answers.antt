use Rattle.std.proofs.Common.{◌≡◌, ◌≤◌, ◌-◌, ◌<◌, Some, length, slice_get, sym, subst, arith}
use Rattle.std.specs.Map.{keys_of}
use Rattle.logic_meaning.specs.Sizes.{height}
use Rattle.formula_store.specs.Facts.{IsFactsOf}
use Rattle.formula_store.specs.Layers.{all}
use Rattle.formula_store.specs.Nodes.{tree, AreNodes}
use Rattle.formula_store.proofs.Heights.{height_within}
use Rattle.formula_store.proofs.Layered.{facts_stay}
use Rattle.formula_store.proofs.overlay.Overlay.facts.Goals as goal

pub returns-then-id-self-clause-facts : goal.returns-then-id-self-clause-facts
returns-then-id-self-clause-facts c =
    let within : c.args.id.number < length c.self.inside.store.now = omega (arith, c.if-id-self.true, c.self.invariant.size) in
    subst (λ v. IsFactsOf (tree (all v) c.args.id) c.facts.result) c.self.view_is (facts_stay c.self.inside.store.now (keys_of c.self.inside.own.entries) c.args.id c.facts.result within c.facts.ensures.facts)

pub returns-clause-facts : goal.returns-clause-facts
returns-clause-facts c =
    let e : slice_get c.self.inside.own.entries (c.args.id.number - c.self.inside.begun) ≡ Some (c.unwrap.result.0.now, c.unwrap.result.1.now) = rw c.unwrap.ensures at (sym c.get_index.ensures.entry) in
    subst (λ v. IsFactsOf (tree (all v) c.args.id) c.unwrap.result.1.now) c.self.view_is
    (c.self.invariant.stored.known (c.args.id.number - c.self.inside.begun) _ c.args.id e (omega (arith, c.if-id-self.false, c.self.invariant.size)))

pub returns-clause-height : goal.returns-clause-height
returns-clause-height c =
    let nodes : AreNodes (all c.args.self.now) = subst (λ v. AreNodes (all v)) c.self.view_is c.self.invariant.stored.nodes in
    let within : height (tree (all c.args.self.now) c.args.id) ≤ length (all c.args.self.now) = height_within (all c.args.self.now) nodes c.args.id c.requires.below in
    let known = returns-clause-facts c in
    omega (arith, known.height_is)
