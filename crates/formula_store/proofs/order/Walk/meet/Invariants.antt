use Rattle.std.proofs.Common.{◌≡◌, take}
use Rattle.formula_store.specs.Order.{Meets, waits}
use Rattle.formula_store.proofs.order.Walk.meet.Given as goal

abbrev pub invariant-loop-id : goal.invariant-loop-id
invariant-loop-id l = record {
  met : l.self.met.items ≡ l.initial.self.met.items;
  waiting : Meets l.store (take l.id-index l.ids) (waits l.initial.self.waiting) (waits l.self.waiting);
}
