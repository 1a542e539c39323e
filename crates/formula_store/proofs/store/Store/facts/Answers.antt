use Rattle.std.proofs.Common.{◌≡◌, ◌≤◌, Some, slice_get, length, sym, subst, arith}
use Rattle.logic_meaning.specs.Sizes.{height}
use Rattle.formula_store.specs.Nodes.{tree, AreNodes}
use Rattle.formula_store.specs.Facts.{IsFactsOf}
use Rattle.formula_store.proofs.Heights.{height_within}
use Rattle.formula_store.proofs.store.Store.facts.Goals as goal

pub returns-clause-facts : goal.returns-clause-facts
returns-clause-facts c =
    let e : slice_get c.self.inside.nodes.entries c.args.id.number ≡ Some (c.unwrap.result.0.now, c.unwrap.result.1.now) = rw c.unwrap.ensures at (sym c.get_index.ensures.entry) in
    subst (λ s. IsFactsOf (tree s c.args.id) c.unwrap.result.1.now) c.self.view_is (c.self.invariant.known c.args.id.number _ c.args.id e (omega arith))

pub returns-clause-height : goal.returns-clause-height
returns-clause-height c =
    let nodes : AreNodes c.args.self.now = subst AreNodes c.self.view_is c.self.invariant.nodes in
    let within : height (tree c.args.self.now c.args.id) ≤ length c.args.self.now = height_within c.args.self.now nodes c.args.id c.requires.below in
    let known = returns-clause-facts c in
    omega (arith, known.height_is)
