use Rattle.formula_store.specs.Order.{Walks, waits}
use Rattle.formula_store.proofs.Ordered.{number_above}
use Rattle.formula_store.proofs.order.subformulas.Given as goal

abbrev pub invariant-loop-number : goal.invariant-loop-number
invariant-loop-number l = Walks l.store l.roots (waits l.walk.waiting) l.walk.met.items

abbrev pub decreases-loop-number : goal.decreases-loop-number
decreases-loop-number l = number_above l.walk.waiting.keys
