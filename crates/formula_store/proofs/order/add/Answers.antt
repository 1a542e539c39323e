use Rattle.formula_store.proofs.Added.{elsewhere}
use Rattle.formula_store.proofs.order.add.Goals as goal

pub returns-in-Ok : goal.returns-in-Ok
returns-in-Ok c =
    let u = c.in-Ok.ensures.updates in
    record { here = u.1; others = λ k n. u.2 k (elsewhere c.args.id.number k n) }
