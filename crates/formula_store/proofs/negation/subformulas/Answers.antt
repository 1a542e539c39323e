use Rattle.std.proofs.Common.{sym}
use Rattle.formula_store.proofs.Counted.{counted}
use Rattle.formula_store.proofs.negation.subformulas.Goals as goal

pub returns-in-Ok-clause-count : goal.returns-in-Ok-clause-count
returns-in-Ok-clause-count c = sym (counted c.args.store.now c.subformulas.ensures.nodes c.args.id c.in-Ok.ids.items c.requires c.in-Ok.ensures.order)
