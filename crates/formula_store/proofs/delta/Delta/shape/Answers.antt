use Rattle.std.proofs.Common.{◌≡◌, Some, slice_get, sym, subst}
use Rattle.formula_store.specs.Changes.{IsChange}
use Rattle.formula_store.proofs.Keys.{key_at}
use Rattle.formula_store.proofs.delta.Delta.shape.Goals as goal

pub returns-clause-node : goal.returns-clause-node
returns-clause-node c =
    let e : slice_get c.self.inside.own.entries c.args.place ≡ Some (c.unwrap.result.0.now, c.unwrap.result.1.now) = rw c.unwrap.ensures at (sym c.get_index.ensures.entry) in
    subst (λ v. slice_get v.own c.args.place ≡ Some c.unwrap.result.0.now) c.self.view_is (key_at c.self.inside.own.entries c.args.place c.unwrap.result.0.now c.unwrap.result.1.now e)

pub returns-clause-ids : goal.returns-clause-ids
returns-clause-ids c = let is : IsChange c.args.self.now = subst IsChange c.self.view_is c.self.invariant in is.below c.args.place c.unwrap.result.0.now (returns-clause-node c)

pub returns-clause-proper : goal.returns-clause-proper
returns-clause-proper c = let is : IsChange c.args.self.now = subst IsChange c.self.view_is c.self.invariant in is.proper c.args.place c.unwrap.result.0.now (returns-clause-node c)
